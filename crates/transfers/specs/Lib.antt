pub mod Transfers
pub mod Lending
