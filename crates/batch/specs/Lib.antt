-- What a reader must believe of several jobs in one call. The laws are in `proofs/`.
pub mod Batch
-- Nothing to believe: terms that only this crate's functions cite.
pub mod Internal
