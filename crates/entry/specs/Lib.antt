-- What a reader must believe of entries and result columns. The laws are in `proofs/`.
pub mod Entry
pub mod Results
-- Nothing to believe: terms of contracts that other crates cite.
pub mod Terms
-- Nothing to believe: terms that only this crate's functions cite.
pub mod Internal
