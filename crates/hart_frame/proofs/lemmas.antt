-- Lemmas, arranged like the code and the definitions.
pub mod wire
pub mod heard
pub mod scan
pub mod Laws
