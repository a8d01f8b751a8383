pub mod Repeats
pub mod Lent
