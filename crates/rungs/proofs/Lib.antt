pub mod ClimbLaws
pub mod RungLaws
pub mod TopLaws
