pub mod Theorems
pub mod Numbers
pub mod Details
pub mod Readings
