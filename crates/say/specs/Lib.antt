-- What the contracts of this crate cite.
pub mod Said
pub mod Called
