pub mod Entries
pub mod Noted
pub mod Reading
pub mod Sessions
pub mod Spelled
