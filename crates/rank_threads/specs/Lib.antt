pub mod Continued
pub mod Faults
pub mod OneStep
pub mod OwnTurn
pub mod Sent
pub mod Standing
pub mod TookTurn
pub mod Turns
