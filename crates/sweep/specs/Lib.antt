-- What a reader must believe of strips and sweeps. The laws are in `proofs/`.
pub mod Strip
pub mod Scan
pub mod Sweep
-- Nothing to believe: terms of contracts that other crates cite.
pub mod Terms
-- Nothing to believe: terms that only this crate's functions cite.
pub mod Internal
