pub mod Builder
pub mod Calls
