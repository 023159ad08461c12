pub mod Common
pub mod KeyLemmas
pub mod PageLaws
pub mod WriteLaws
pub mod WriteLemmas
