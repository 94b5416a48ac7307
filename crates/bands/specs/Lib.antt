-- What a reader must believe of price bands. The laws are in `proofs/`.
pub mod Bands
pub mod Calls
pub mod Cover
-- Nothing to believe: terms that only this crate's functions cite.
pub mod Internal
