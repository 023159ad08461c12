pub mod Opened
pub mod Runs
pub mod Saves
pub mod Survives
