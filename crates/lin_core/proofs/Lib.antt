pub mod links
pub mod sendings
pub mod slots
pub mod kept
pub mod steps
pub mod laws
pub mod examples
