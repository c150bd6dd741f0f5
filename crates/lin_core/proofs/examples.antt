-- Worked examples, by computation.
pub mod Rows
pub mod SignalRows
pub mod TransportRows
pub mod ToAllRows
pub mod ServiceRows
