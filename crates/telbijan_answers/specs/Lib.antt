pub mod Interface
pub mod Calls
pub mod Lent
pub mod Details
