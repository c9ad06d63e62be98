pub mod Streams
pub mod Flagged
pub mod Forms
pub mod Found
