pub mod ClientRows
pub mod Keys
pub mod RankRows
pub mod Restoring
pub mod Sessions
