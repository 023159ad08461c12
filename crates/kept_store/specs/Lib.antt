pub mod Kept
pub mod Noting
