pub mod Lines
pub mod Reading
pub mod Cut
pub mod Part
pub mod ReadLine
pub mod Placed
