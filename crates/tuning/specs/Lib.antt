pub mod Keys
pub mod Middle
pub mod Refusals
pub mod MiddleRefusals
pub mod Beside
pub mod Run
