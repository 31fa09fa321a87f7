pub mod Stages
pub mod Kept
pub mod Totals
pub mod Asked
