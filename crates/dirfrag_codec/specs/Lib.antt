pub mod EntryRecord
pub mod FragHeader
pub mod FragmentObject
pub mod Grammar
pub mod Leaves
pub mod Reading
pub mod TreeObject
pub mod Values
