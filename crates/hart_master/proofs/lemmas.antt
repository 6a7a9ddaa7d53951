-- Lemmas, each file named after its subject.
pub mod Laws
pub mod Alike
