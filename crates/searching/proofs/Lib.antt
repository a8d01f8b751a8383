pub mod Opened
pub mod Within
pub mod Parting
pub mod Given
pub mod Refusals
pub mod Theorems
pub mod Numbers
pub mod Exact
