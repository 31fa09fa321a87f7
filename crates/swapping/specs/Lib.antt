pub mod Swaps
