pub mod BatchLaws
pub mod EntryLaws
pub mod ReadLaws
pub mod RowLaws
pub mod SessionLaws
pub mod SpelledLaws
pub mod StoreLaws
