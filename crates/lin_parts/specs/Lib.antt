pub mod Services
pub mod Cluster
pub mod Configured
pub mod Carriers
pub mod Rules
pub mod Sound
