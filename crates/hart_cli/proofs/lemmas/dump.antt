-- `hart dump`.
pub mod FrameLines
pub mod ScanInput
