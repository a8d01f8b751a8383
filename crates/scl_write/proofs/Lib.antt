pub mod ItemLines
pub mod ScaleLines
pub mod Theorems
pub mod Samples
pub mod ExportLines
pub mod Published
pub mod Bound
