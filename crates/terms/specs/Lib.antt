pub mod Table
pub mod Refusals
pub mod Ranges
pub mod Named
pub mod Orders
pub mod Faces
pub mod Words
