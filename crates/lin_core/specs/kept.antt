-- No promise rests on these: what the core keeps of its log.
pub mod Slots
pub mod Signals
pub mod Hosts
pub mod Receivers
pub mod Bus
pub mod Ready
pub mod Refusals
pub mod State
