pub mod Items
pub mod Table
pub mod Writing
pub mod Numbers
pub mod Theorems
pub mod Typed
