pub mod Explained
pub mod Misread
