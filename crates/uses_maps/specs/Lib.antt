pub mod Fields
pub mod Headers
pub mod Names
pub mod Settings
