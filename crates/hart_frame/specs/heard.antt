-- What was heard: characters, and where frames stand in them.
pub mod Character
pub mod Place
pub mod Frames
pub mod Miss
pub mod InTheWay
pub mod Sighting
pub mod Damage
