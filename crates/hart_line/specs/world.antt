-- The world of a script: what has happened on the line.
pub mod Spoken
pub mod Damage
pub mod World
pub mod Step
pub mod Needs
pub mod Faults
pub mod Noted
pub mod Promises
pub mod Kept
