pub mod Brackets
pub mod Building
pub mod Faults
pub mod Trees
