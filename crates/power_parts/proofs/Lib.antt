pub mod Bits
pub mod Floors
pub mod Groups
pub mod One
