pub mod Numbers
pub mod Said
pub mod Integers
pub mod Tables
