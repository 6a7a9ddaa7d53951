-- Status bytes.
pub mod StatusBytes
