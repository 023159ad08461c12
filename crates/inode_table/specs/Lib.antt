pub mod Dirs
pub mod Numbers
pub mod Order
pub mod Pinned
pub mod Rows
pub mod Settings
pub mod TreeChanges
pub mod TreeTable
