-- What a reader must believe of the three ways to join two strips. The laws are in `proofs/`.
pub mod Join
-- Nothing to believe: terms of contracts that other crates cite.
pub mod Terms
