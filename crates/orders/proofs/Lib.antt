pub mod Accepted
mod Filling
