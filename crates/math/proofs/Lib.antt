pub mod OddPart
pub mod Trailing
pub mod Theorems
