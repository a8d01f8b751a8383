pub mod Room
pub mod Build
pub mod Writing
pub mod Reduce
