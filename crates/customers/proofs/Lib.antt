-- The laws of the two customers of a grid.
pub mod CustomerLaws
