-- How a device answers: which frames it answers, what it answers, and how a frame changes it.
pub mod Status
pub mod Variables
pub mod Content
pub mod Answer
pub mod Own
pub mod Garbled
pub mod Delivery
