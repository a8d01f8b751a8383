pub mod Mappings
pub mod Calls
