-- Lemmas, in the same modules as the code and the definitions.
pub mod Ask
pub mod DeviceLines
pub mod Laws
pub mod LineWords
pub mod MasterLines
pub mod One
pub mod OneWay
pub mod Promise
