-- Lemmas, each file named after its subject.
pub mod Rows
pub mod Request
pub mod Parts
pub mod Reply
pub mod RequestMade
pub mod FieldWidths
pub mod Laws
pub mod WellMade
