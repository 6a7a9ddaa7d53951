-- Reading an input.
pub mod Decoded
pub mod InputChars
pub mod NoMark
pub mod Reads
