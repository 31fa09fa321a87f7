pub mod Blank
pub mod Rows
pub mod Accounts
pub mod Bonds
