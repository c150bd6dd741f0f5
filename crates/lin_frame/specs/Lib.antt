pub mod Bits
pub mod Frame
pub mod Inverse
pub mod Short
pub mod Words
