pub mod address
pub mod packed_text
pub mod hart_date
pub mod status
pub mod EachMaster
pub mod FaultNumbers
pub mod LoopMode
