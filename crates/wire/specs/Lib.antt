pub mod Numbers
pub mod Calls
pub mod Decoding
pub mod Answers
pub mod Searches
pub mod Placing
