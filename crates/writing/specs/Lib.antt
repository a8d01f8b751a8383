pub mod Lines
pub mod Fitted
pub mod Thousandths
pub mod PublishedLines
