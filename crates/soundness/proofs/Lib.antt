pub mod SumLaws
pub mod SumValues
pub mod Clauses
