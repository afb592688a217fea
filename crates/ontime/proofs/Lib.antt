pub mod Sums
pub mod Levels
pub mod OneJob
pub mod SamePlaces
pub mod Pays
pub mod GoesOnProof
pub mod Multiples
pub mod Theorems
