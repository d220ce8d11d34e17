mod Seven
mod Known
mod Replaced
