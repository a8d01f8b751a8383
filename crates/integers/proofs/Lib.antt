pub mod Tens
pub mod Digits
pub mod Scan
pub mod Range
pub mod Language
pub mod Theorems
pub mod Samples
pub mod AtLine
