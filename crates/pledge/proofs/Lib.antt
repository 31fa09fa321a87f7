pub mod Faces
pub mod Tried
