pub mod Fees
pub mod Values
