pub mod Export
pub mod Published
