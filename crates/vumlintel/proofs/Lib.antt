-- The laws of answers that cross.
pub mod Crosses
pub mod Counters
