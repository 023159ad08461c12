pub mod Reading
pub mod ReplyBytes
pub mod Values
