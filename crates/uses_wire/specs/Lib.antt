pub mod Lists
pub mod LogRecords
