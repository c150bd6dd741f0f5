-- Campaigns: a bench script is played as it is, and then under faults; each play is a row.
pub mod Slots
pub mod Singles
pub mod Rows
pub mod Row
pub mod Checks
pub mod Played
pub mod Shown
pub mod FaultNames
pub mod Text
pub mod Csv
pub mod Jsonl
pub mod Junit
pub mod Page
pub mod Summary
pub mod Written
pub mod Steps
