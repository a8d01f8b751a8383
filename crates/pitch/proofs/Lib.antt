pub mod Numbers
pub mod Theorems
