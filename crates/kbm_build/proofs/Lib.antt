pub mod Pushes
pub mod Appends
pub mod Plain
pub mod Theorems
pub mod Backwards
pub mod Calls
pub mod Samples
