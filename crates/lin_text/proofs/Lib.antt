pub mod Adding
pub mod Growing
pub mod Digits
