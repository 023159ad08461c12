pub mod KeptLaws
pub mod NotingLaws
