pub mod Digits
pub mod IntegerText
pub mod Integer
pub mod AtLine
