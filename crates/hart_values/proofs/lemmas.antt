-- Lemmas. A module of lemmas has the name of the module of code or definitions that it is about.
pub mod Laws
pub mod Calendar
