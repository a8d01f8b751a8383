pub mod Entries
pub mod Order
pub mod Asked
pub mod Stable
pub mod Heap
