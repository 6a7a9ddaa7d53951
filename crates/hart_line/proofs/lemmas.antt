-- Lemmas, in the same modules as the code and the definitions.
pub mod script
pub mod line
pub mod world
pub mod Laws
