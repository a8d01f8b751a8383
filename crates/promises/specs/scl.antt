-- Scale files read and written: what the two say together. The round trip, and the published format.
pub mod Again
pub mod Samples
pub mod Agree
pub mod Limits
