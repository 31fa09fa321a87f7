pub mod Filled
pub mod Fronts
pub mod Listed
pub mod Parted
