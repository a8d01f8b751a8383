pub mod Scales
pub mod Relative
pub mod Refusals
pub mod Pitches
pub mod RootedRefusals
