-- Equal steps of a segment of the harmonic series stay in E's domain, and when `create_harmonics_scale` refuses.
pub mod Causes
