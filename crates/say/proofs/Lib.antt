mod Answered
mod Consumed
mod Placed
pub mod Theorems
