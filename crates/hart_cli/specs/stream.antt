-- Readers and writers.
pub mod Stream
pub mod Plain
pub mod Kept
