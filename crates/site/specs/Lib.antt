-- What a reader must believe of sites and site lists. The laws are in `proofs/`.
pub mod Answer
pub mod Site
pub mod SiteList
pub mod Refusal
pub mod InUse
pub mod Addition
pub mod Removal
pub mod Undoing
-- Nothing to believe: terms of contracts that other crates cite.
pub mod Terms
