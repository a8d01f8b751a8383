pub mod Scale
pub mod Theorems
