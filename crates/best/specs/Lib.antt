pub mod Best
pub mod Answers
pub mod Walked
