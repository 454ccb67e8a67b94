pub mod Examples
pub mod Numbers
pub mod Spelled
pub mod Scans
pub mod Lines
pub mod Sounds
pub mod Takes
pub mod TakesOnly
pub mod Tested
pub mod Accepts
pub mod AcceptsOnly
pub mod Exact
pub mod Walks
pub mod Figures
pub mod Lexes
pub mod RunEnds
pub mod Left
pub mod Formed
mod Places
mod Taking
mod Valued
mod Kept
mod Parts
mod Answered
mod Tables
mod Judged
mod Agreed
mod CommandLines
mod Numbered
mod Exits
mod Wholes
mod Feeds
