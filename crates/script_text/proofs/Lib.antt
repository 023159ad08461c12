pub mod Common
pub mod FirstLf
pub mod FormLemmas
pub mod LineLemmas
pub mod TextNames
