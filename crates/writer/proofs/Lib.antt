pub mod Bytes
pub mod Entries
pub mod Listing
pub mod Filing
pub mod Answering
