pub mod Keys
pub mod Theorems
