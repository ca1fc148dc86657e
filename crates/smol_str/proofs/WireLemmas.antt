pub mod Wire
pub mod Borsh
pub mod Stream
