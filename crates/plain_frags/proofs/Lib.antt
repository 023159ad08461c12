pub mod Common
pub mod Counted
pub mod Rows
pub mod Unused
