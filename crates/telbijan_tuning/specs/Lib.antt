pub mod Tunings
pub mod Searches
pub mod Calls
pub mod Samples
pub mod MiddleSamples
