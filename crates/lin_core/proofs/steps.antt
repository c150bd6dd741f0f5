-- Each step: its events are the definition's, and what it makes of what is kept.
pub mod Known
pub mod Steps
pub mod Making
pub mod Allowed
pub mod Answering
pub mod Transporting
pub mod Timeouts
pub mod FinishEvents
pub mod FinishCases
pub mod Goods
pub mod Settled
pub mod Reassembling
pub mod ToAll
pub mod Coming
