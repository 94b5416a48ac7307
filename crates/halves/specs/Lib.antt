-- What a reader must believe of the join by halves. The laws are in `proofs/`.
pub mod Gap
pub mod Halves
-- Nothing to believe: terms of contracts that other crates cite.
pub mod Terms
-- Nothing to believe: terms that only this crate's functions cite.
pub mod Internal
