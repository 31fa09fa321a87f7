pub mod Columns
pub mod Many
