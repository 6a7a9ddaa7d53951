-- The world of a script: what has happened on the line.
pub mod Steps
pub mod Leads
pub mod Submitted
pub mod Answered
pub mod Written
pub mod Reset
