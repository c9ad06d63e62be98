pub mod Tables
pub mod Flagging
pub mod Records
pub mod Calling
pub mod FromSpans
