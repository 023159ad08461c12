pub mod Words
pub mod Numbers
pub mod Escapes
pub mod Reading
pub mod Arguments
pub mod Fragments
