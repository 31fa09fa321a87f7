pub mod Concentration
pub mod Cover
