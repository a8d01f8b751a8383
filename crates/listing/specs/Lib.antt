pub mod Listing
pub mod Reader
pub mod Drawn
pub mod Refusals
