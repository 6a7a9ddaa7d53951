-- `hart sim`.
pub mod Text
pub mod Sim
