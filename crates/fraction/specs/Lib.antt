pub mod NearestFraction
pub mod Samples
