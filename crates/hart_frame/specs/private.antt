-- What private functions promise one another. A reader who trusts the contracts of the public functions need not read these files.
pub mod Layout
pub mod Prefix
pub mod Sums
pub mod Miss
pub mod Address
pub mod Candidate
pub mod Search
pub mod Sighting
pub mod Buffer
pub mod Decision
