pub mod Generators
pub mod Calls
pub mod Readings
