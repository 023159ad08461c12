pub mod Checking
pub mod Export
pub mod Reading
