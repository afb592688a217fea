pub mod ReleaseLaws
pub mod RowLaws
pub mod TickLaws
