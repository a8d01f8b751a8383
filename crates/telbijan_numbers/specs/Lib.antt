pub mod Orders
pub mod Calls
