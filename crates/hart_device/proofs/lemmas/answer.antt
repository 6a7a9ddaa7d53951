-- The answer: which frames the device answers, what it answers, and how a frame changes it.
pub mod Effect
pub mod Garbled
pub mod Delivery
pub mod Content
