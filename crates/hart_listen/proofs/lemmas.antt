-- Lemmas.
pub mod Gaps
pub mod OnePreamble
pub mod Seems
pub mod Sightings
pub mod Dates
pub mod InStretches
pub mod Same
pub mod Before
pub mod Dated
pub mod Preambles
pub mod Held
pub mod Stands
pub mod Decided
pub mod Listener
pub mod HeldDates
pub mod Laws
