pub mod DecimalText
pub mod DecimalScan
pub mod Answers
