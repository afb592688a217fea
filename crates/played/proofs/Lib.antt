pub mod TickShares
pub mod PlayLaws
pub mod StartLaws
pub mod TextLaws
pub mod RunOfPlay
pub mod BenchRuns
pub mod Theorems
