pub mod Conversions
pub mod Reading
pub mod Writing
