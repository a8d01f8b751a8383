pub mod Notes
pub mod Asked
pub mod Rank2
pub mod Steps
