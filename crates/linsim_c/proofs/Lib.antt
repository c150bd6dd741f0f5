pub mod Further
pub mod Handles
pub mod Texts
pub mod Values
