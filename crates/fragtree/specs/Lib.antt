pub mod FragTree
pub mod Descents
