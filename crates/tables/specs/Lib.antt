pub mod Numbers
pub mod Bands
pub mod Codes
pub mod Pointers
pub mod Fits
pub mod Slots
