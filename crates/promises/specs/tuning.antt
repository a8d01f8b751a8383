-- Tunings of scales that were built or read, and of mappings that were read: what the calls on them come to.
pub mod Samples
pub mod Far
pub mod Roots
pub mod Published
pub mod PublishedSamples
