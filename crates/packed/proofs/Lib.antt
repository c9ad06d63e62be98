pub mod Bytes
pub mod Tracks
pub mod Answering
