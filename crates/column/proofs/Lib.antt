-- The laws of lent columns.
pub mod Overwritten
pub mod Stored
pub mod Filled
pub mod Replaced
pub mod Moved
pub mod Inserted
pub mod Removed
