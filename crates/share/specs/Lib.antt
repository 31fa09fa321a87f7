pub mod Shares
pub mod Laws
