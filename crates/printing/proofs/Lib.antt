pub mod Texts
pub mod Exact
pub mod Integers
pub mod Form
pub mod One
pub mod Limits
pub mod Samples
pub mod Theorems
