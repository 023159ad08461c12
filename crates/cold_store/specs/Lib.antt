pub mod Calls
pub mod ColdTree
pub mod Left
pub mod Numbers
pub mod Rows
pub mod Walked
