pub mod Flagging
pub mod Working
pub mod Preparing
pub mod Blank
pub mod Making
pub mod Records
pub mod Calling
