pub mod Printable
pub mod Theorems
