pub mod Loans
pub mod Kept
