pub mod Copy
pub mod Prints
