-- Equal steps of a segment of the harmonic series stay in E's domain, and when `create_harmonics_scale` refuses.
pub mod Small
pub mod Octaves
pub mod Divided
pub mod Theorems
pub mod Whole
pub mod Empty
