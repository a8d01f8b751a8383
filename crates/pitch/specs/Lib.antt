pub mod Given
pub mod Ratios
pub mod Pitches
pub mod Answers
