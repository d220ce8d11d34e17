mod Words
mod Digits
mod Listing
mod Judging
