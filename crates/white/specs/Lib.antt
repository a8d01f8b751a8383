pub mod White
pub mod Trim
