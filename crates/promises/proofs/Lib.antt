pub mod kbm
pub mod scl
pub mod tuning
pub mod samples
pub mod equal_steps
