pub mod States
pub mod WalkEnds
pub mod NearestAnswers
pub mod NearestTheorems
pub mod Theorems
