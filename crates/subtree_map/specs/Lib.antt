pub mod Authority
pub mod Changes
pub mod Climb
pub mod Lists
pub mod Moves
pub mod Rows
pub mod Laws
