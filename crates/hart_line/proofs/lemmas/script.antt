-- Scripts: texts in which each line writes an event.
pub mod Items
pub mod Rows
pub mod Decided
pub mod Digits
