pub mod Tellings
mod Wholes
pub mod Captures
pub mod Slots
pub mod Timed
pub mod TimingLines
mod Times
pub mod Puttings
pub mod Rows
pub mod Lines
pub mod Places
pub mod PlainTexts
pub mod ColumnNames
pub mod Groups
mod Hosts
pub mod Dumps
pub mod Objects
pub mod ShortAdded
pub mod KeptMore
pub mod LastSlots
pub mod ListedLines
pub mod Maps
pub mod NumberedLines
