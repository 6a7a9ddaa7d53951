-- On the wire: a frame, and the bytes of its body and its message.
pub mod FrameParts
pub mod Parity
pub mod Delimiter
pub mod Body
pub mod Layout
pub mod Header
pub mod Refusal
pub mod Message
pub mod FaultNumbers
pub mod View
