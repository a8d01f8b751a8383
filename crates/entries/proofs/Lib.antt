-- A list stored from columns.
pub mod Stored
-- Reads and builds into a list.
pub mod Builds
pub mod Readings
pub mod Theorems
-- Searches in a list (src/search.rt).
pub mod Answers
pub mod Opened
pub mod Passes
pub mod SearchTheorems
