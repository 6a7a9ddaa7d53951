-- Packed text.
pub mod Packing
