mod Reading
mod Cutting
