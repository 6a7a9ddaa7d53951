mod Kept
mod Checks
mod Accepted
mod Masters
mod Marked
mod Shown
