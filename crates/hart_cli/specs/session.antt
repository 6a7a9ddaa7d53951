-- Calls that answer lines, one after another.
pub mod Session
pub mod Server
