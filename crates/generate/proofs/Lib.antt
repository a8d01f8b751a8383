pub mod Items
pub mod Kept
pub mod Made
pub mod Theorems
pub mod Numbers
