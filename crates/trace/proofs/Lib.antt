pub mod Flagging
pub mod Choices
pub mod Trying
pub mod Searching
pub mod Records
pub mod Calling
