pub mod Numbers
pub mod Theorems
pub mod Details
pub mod Readings
