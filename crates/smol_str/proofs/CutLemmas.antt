pub mod Cut
pub mod Sync
pub mod Match
pub mod Replace
pub mod Replacing
pub mod Bytes
pub mod Near
