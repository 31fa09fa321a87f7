pub mod Moving
pub mod Reading
