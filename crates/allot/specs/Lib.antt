pub mod Allotments
