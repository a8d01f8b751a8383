pub mod Answers
pub mod Language
pub mod Samples
pub mod Exact
pub mod Theorems
