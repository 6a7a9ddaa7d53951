-- `hart explain`.
pub mod Grow
pub mod Printer
pub mod Input
