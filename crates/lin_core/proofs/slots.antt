-- The open slot: its header, who is due, and the frame that it carries.
pub mod OpenSlots
pub mod Opening
pub mod ClusterFrames
pub mod Hearing
pub mod Selected
