-- Calls that answer lines.
pub mod Cuts
pub mod Lines
pub mod Served
pub mod Server
pub mod Input
