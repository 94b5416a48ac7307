-- What a reader must believe of the case listing. The laws are in `proofs/`.
pub mod Decimal
pub mod Listing
-- Nothing to believe: terms that only this crate's functions cite.
pub mod Internal
