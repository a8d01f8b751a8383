pub mod Root
pub mod Exp
pub mod Log
pub mod Rules
pub mod Samples
pub mod Near
pub mod Head
