pub mod Builder
pub mod Calls
pub mod Samples
