mod Counts
mod Calls
