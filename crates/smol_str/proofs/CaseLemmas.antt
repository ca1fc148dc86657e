pub mod Ascii
pub mod Lanes
pub mod Full
pub mod Letters
pub mod Sigma
