pub mod Characters
pub mod Eights
pub mod Utf8Machine
