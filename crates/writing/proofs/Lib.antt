pub mod Lines
pub mod Room
pub mod Widths
pub mod Theorems
pub mod Plain
pub mod Printed
pub mod PublishedValues
