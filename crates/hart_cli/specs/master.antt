-- `hart master`.
pub mod MasterWords
pub mod Master
