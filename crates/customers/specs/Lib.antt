-- What a reader must believe of the two customers of a grid. The laws are in `proofs/`.
pub mod Customers
