-- The laws of the three ways to join two strips.
pub mod JoinLaws
pub mod Alike
pub mod JoinedStrips
pub mod Counted
