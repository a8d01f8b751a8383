-- Samples, each table here under one theorem of proofs/samples: the starred ones of document 01 (Samples.antt, proofs/samples/Starred.antt),
-- and others that tell apart what is easily exchanged.
pub mod Samples
pub mod Degrees
pub mod Generators
