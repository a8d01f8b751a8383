pub mod FloatText
pub mod Scan
