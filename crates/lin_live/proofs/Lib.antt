mod Adding
pub mod Cuts
mod Keeping
mod Transcripts
pub mod Writing
pub mod Growth
mod SaidWords
mod LastObjects
mod LinesTold
mod Replying
mod HeldBack
mod HeldMarks
mod Returning
pub mod Plays
