pub mod EntryKeys
pub mod Equal
pub mod Faulty
pub mod Objects
pub mod Omap
pub mod Writes
