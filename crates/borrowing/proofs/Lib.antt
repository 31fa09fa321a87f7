pub mod Moved
pub mod Made
pub mod Lent
