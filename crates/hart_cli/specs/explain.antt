-- `hart explain`.
pub mod Explanation
pub mod Same
pub mod Printer
