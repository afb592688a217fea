pub mod DivisorLaws
pub mod Caps
pub mod Prefixes
pub mod Quotients
