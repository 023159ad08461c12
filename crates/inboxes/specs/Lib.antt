pub mod Inbox
pub mod Inboxes
pub mod Pins
