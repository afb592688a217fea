pub mod Promised
pub mod PlaysAreRuns
