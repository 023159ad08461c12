pub mod Again
pub mod Common
pub mod Items
pub mod ReplyLaws
pub mod Taken
pub mod Written
pub mod ValueLaws
