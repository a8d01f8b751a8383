pub mod Order
pub mod Theory
pub mod Sift
pub mod Columns
pub mod Work
pub mod Turns
pub mod InOrder
pub mod Stable
