pub mod Division
pub mod OddPart
pub mod Answers
