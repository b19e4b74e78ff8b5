mod Appending
mod Reading
