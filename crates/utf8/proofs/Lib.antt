pub mod Passes
pub mod Encodings
pub mod Utf8Steps
pub mod Utf8Language
pub mod Theorems
