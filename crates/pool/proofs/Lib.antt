mod Answered
mod Named
pub mod Laws
mod Obeying
mod Begun
