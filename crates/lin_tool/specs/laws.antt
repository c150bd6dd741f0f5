-- What holds of logs with names, of transcripts, and of plain LDF texts.
pub mod NamedScripts
pub mod Transcripts
pub mod Texts
