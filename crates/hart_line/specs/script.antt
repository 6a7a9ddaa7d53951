-- Scripts: texts in which each line stands for an event.
pub mod Items
pub mod Words
pub mod Rows
