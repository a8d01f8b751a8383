pub mod Theorems
pub mod Numbers
pub mod Details
pub mod Samples
pub mod MiddleSamples
