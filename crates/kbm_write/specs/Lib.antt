pub mod Export
pub mod Typed
pub mod Again
pub mod Published
