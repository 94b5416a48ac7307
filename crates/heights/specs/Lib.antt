-- What a reader must believe of equal heights. The laws are in `proofs/`.
pub mod Heights
-- Nothing to believe: terms that only this crate's functions cite.
pub mod Internal
