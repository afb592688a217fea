pub mod MarkLaws
pub mod PlainLaws
pub mod StepLaws
