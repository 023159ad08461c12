pub mod PlainFrags
pub mod Run
