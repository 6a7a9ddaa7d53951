-- How frames are found: by a scanner while characters arrive, or in bytes in memory, without a copy.
pub mod Scanner
pub mod Chunk
pub mod Streamed
pub mod Next
pub mod Sighting
