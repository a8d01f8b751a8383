pub mod Floats
pub mod Ranges
pub mod Units
