pub mod Blocks
pub mod Common
