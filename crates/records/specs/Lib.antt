pub mod Kept
pub mod Openings
pub mod Times
pub mod Quotas
