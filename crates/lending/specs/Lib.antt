pub mod View
pub mod Lendable
