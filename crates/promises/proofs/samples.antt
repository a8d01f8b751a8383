-- The tables of specs/samples hold, a theorem for each: the starred samples of document 01, of degrees, of generated scales.
pub mod Starred
pub mod Degrees
pub mod Generators
