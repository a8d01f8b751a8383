-- Scale files read and written: what the two say together. The round trip, and the published format.
pub mod ItemsBack
pub mod Utf8Part
pub mod Described
pub mod RoundTrip
pub mod Samples
pub mod Values
pub mod OneMeaning
pub mod Following
pub mod Accepted
pub mod Agree
pub mod Limits
pub mod Both
pub mod Parting
