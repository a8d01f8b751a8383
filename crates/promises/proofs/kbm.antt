-- Mapping files read and written: what the two say together. The round trip, and the published format.
pub mod Walk
pub mod RoundTrip
pub mod Standing
pub mod Values
pub mod Agree
pub mod Limits
pub mod Accepted
pub mod OneMeaning
pub mod SameKeys
pub mod Sounding
pub mod Samples
pub mod PublishedSamples
pub mod Range
pub mod Places
pub mod KeysOfText
