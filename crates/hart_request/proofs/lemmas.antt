-- Lemmas, each file named after its subject.
pub mod Texts
