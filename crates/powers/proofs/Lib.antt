pub mod Every
pub mod Factors
pub mod Entries
pub mod Bound
pub mod Turns
pub mod Theorems
