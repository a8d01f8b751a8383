-- Mapping files read and written: what the two say together. The round trip, and the published format.
pub mod Agree
pub mod KeysOfText
pub mod Limits
pub mod Samples
pub mod Sounding
