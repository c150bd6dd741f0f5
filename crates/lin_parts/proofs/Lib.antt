pub mod Identifiers
pub mod Limits
pub mod Pairs
pub mod SoundClusters
pub mod Carrying
pub mod Configuring
