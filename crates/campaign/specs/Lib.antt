-- What a reader must believe of campaigns on a grid. The laws are in `proofs/`.
pub mod Grid
pub mod Soundness
pub mod Calls
-- Nothing to believe: terms of contracts that other crates cite, and those that only this crate's functions cite.
pub mod Terms
pub mod Internal
