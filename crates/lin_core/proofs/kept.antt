-- What is kept stays that of the log, one more entry on.
pub mod Places
pub mod Entries
pub mod Keeping
pub mod BusAndSenders
pub mod SignalKeeping
pub mod Bus
pub mod Ready
pub mod Receiving
pub mod Passing
pub mod Going
pub mod Settling
pub mod Sleeping
