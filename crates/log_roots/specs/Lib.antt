pub mod Table
pub mod Roots
