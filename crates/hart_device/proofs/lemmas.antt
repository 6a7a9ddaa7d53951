-- Lemmas, in the same modules as the code and the definitions.
pub mod answer
pub mod Laws
pub mod Image
pub mod Registers
