pub mod Deals
pub mod Borrows
