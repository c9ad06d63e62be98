pub mod Columns
pub mod Rows
pub mod Filled
pub mod Gathered
pub mod Checks
pub mod Making
pub mod Answering
