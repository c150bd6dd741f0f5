pub mod Numbers
pub mod PackedBits
pub mod PlacedBits
pub mod PlacedValues
pub mod ZerosAfter
