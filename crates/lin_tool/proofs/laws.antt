-- What the laws rest on.
pub mod NamedLogs
pub mod LdfTokens
pub mod LdfWords
pub mod LdfNames
pub mod TextNames
pub mod Remarks
pub mod LogLines
pub mod Transcripts
pub mod Scripts
pub mod Inputs
pub mod Limits
pub mod Widens
pub mod PlainItems
pub mod PlainErrors
pub mod PlainSections
pub mod PlainTables
pub mod Texts
