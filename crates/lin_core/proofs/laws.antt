-- The laws, of each history.
pub mod Ends
pub mod Agreeing
pub mod Calm
pub mod Fixed
pub mod Reports
pub mod Readings
pub mod Defined
pub mod Laws
pub mod NoServices
