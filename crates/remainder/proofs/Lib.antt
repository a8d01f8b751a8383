pub mod Modulo
pub mod Bounds
pub mod Theorems
