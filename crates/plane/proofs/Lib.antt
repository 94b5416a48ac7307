-- The proof that every height 0 gives the answers of the plane.
pub mod PairLists
pub mod Campaigns
pub mod Plane
