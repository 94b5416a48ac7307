-- What a reader must believe of boxes. The laws are in `proofs/`.
pub mod Box
-- Nothing to believe: terms that only this crate's functions cite.
pub mod Internal
