pub mod Ratio
pub mod Halving
pub mod Roots
pub mod Rows
pub mod One
pub mod Theorems
