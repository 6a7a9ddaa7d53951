pub mod Lines
pub mod Item
pub mod Digits
pub mod Data
pub mod Items
pub mod Heard
pub mod Marks
