-- What was heard: characters, and where frames stand in them.
pub mod Place
pub mod FramesFound
pub mod Rest
pub mod Sighting
pub mod Seen
pub mod Damage
pub mod Example
pub mod Front
pub mod Missed
pub mod Hint
pub mod InTheWay
