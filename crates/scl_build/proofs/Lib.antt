pub mod Pushes
pub mod Builds
pub mod Appends
pub mod Numbers
pub mod Theorems
pub mod Comes
pub mod Calls
