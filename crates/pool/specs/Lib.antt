pub mod State
pub mod Opening
pub mod Rules
pub mod Life
pub mod Law
pub mod Promises
