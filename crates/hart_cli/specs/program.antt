-- The program: the call that the words make, and how the program ends.
pub mod CommandLine
pub mod Program
