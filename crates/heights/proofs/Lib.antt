-- The laws of equal heights and of their table.
pub mod Heights
pub mod Table
pub mod Examples
