pub mod Language
pub mod Reader
pub mod ItemText
pub mod Steps
pub mod Tokens
pub mod Refusals
pub mod EachSaid
