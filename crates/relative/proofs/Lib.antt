pub mod Places
pub mod Opened
pub mod Back
pub mod Ratios
pub mod Refusals
pub mod Theorems
pub mod Rising
pub mod Numbers
