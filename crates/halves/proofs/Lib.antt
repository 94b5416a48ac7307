-- The laws of the join by halves.
pub mod VisitLaws
pub mod HalvesLaws
pub mod Counted
pub mod Alike
pub mod SquaredStripGap
pub mod Halving
pub mod Visiting
pub mod Joining
pub mod Examples
