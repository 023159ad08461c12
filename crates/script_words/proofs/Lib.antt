pub mod Common
pub mod EscapeLemmas
pub mod FormLemmas
pub mod FragLemmas
pub mod NameLemmas
pub mod NumberLemmas
pub mod WordLemmas
