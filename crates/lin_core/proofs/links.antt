-- What stands on the links, and what becomes of messages by it.
pub mod Fates
pub mod Tracks
pub mod Finishes
pub mod Results
