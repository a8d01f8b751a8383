pub mod Texts
pub mod Details
pub mod Given
pub mod Exports
pub mod Copies
pub mod Language
pub mod Theorems
