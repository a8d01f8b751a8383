pub mod Items
pub mod Table
pub mod Lent
pub mod Answers
