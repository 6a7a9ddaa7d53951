-- Lemmas, each file named after its subject.
pub mod Extended
pub mod Laws
pub mod HexText
pub mod Rows
pub mod Json
pub mod OneLine
pub mod Bounded
pub mod Lengths
pub mod JsonLengths
pub mod SightingLengths
