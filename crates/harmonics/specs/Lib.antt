pub mod Segment
pub mod Harmonics
pub mod Steps
