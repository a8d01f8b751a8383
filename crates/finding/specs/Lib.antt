pub mod Find
pub mod Says
