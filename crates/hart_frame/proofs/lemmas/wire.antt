-- On the wire: a frame, and the bytes of its body and its message.
pub mod Parity
pub mod Lane
pub mod Body
pub mod UnambiguousBodies
pub mod Refusal
pub mod BodiesFound
pub mod Truncated
pub mod Reading
pub mod Header
pub mod Sums
