-- How frames are found: by the scanner while they are heard, and in bytes in memory.
pub mod Scan
pub mod Candidate
pub mod Search
pub mod BodyAt
pub mod Sighted
pub mod Alone
pub mod NextSeen
pub mod Completed
pub mod SightingLaws
pub mod Undecided
pub mod Stream
pub mod Buffer
pub mod Decision
pub mod Pairs
pub mod Chunk
pub mod First
pub mod Next
