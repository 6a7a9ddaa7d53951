-- Reading an input.
pub mod Input
pub mod InputChars
pub mod WholeInput
pub mod Decoding
pub mod LiveInput
pub mod Ahead
