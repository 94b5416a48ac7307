-- What a reader must believe of lent columns and places. The laws are in `proofs/`.
pub mod Column
pub mod Lent
