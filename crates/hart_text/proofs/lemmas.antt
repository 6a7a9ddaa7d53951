-- Lemmas.
pub mod Lines
pub mod Data
pub mod Item
pub mod Reads
pub mod Items
pub mod Marks
pub mod Heard
pub mod NoMark
pub mod Lanes
pub mod ItemRun
