-- `hart dump`.
pub mod Text
pub mod Dump
pub mod FrameLines
