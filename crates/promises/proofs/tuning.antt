-- Tunings of scales that were built or read, and of mappings that were read: what the calls on them come to.
pub mod Scales
pub mod Mappings
pub mod Samples
pub mod Far
pub mod Theorems
pub mod Read
pub mod Exact
pub mod Published
pub mod DegreeZero
pub mod ReferencePitch
pub mod PublishedSamples
