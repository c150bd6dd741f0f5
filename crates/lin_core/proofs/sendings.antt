-- The messages of a host: how they go on, and what comes next of them.
pub mod Hosts
pub mod Moves
pub mod Queues
pub mod Senders
pub mod Turns
pub mod Nexts
