pub mod Theorems
pub mod None
pub mod Refusals
pub mod Numbers
pub mod Tested
