pub mod Counts
pub mod KnownDirs
pub mod Regions
pub mod Sending
pub mod Spelling
