pub mod Packed
pub mod Words
pub mod WordOrder
pub mod Ends
