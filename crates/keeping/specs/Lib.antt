pub mod Rows
pub mod Unkept
