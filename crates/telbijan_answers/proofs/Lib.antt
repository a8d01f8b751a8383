pub mod Interface
pub mod Theorems
pub mod Details
