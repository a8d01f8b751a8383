pub mod Scale
pub mod Power
pub mod Steps
pub mod Nearest
pub mod Assemble
pub mod Theorems
