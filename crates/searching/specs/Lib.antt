pub mod Search
pub mod Nearest
pub mod Refusals
pub mod Degrees
