pub mod Theorems
pub mod Numbers
pub mod Run
pub mod Middle
pub mod MiddleNumbers
