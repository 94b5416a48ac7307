-- What a reader must believe of orders and lists. The laws are in `proofs/`.
pub mod Order
pub mod Sort
pub mod Lists
-- Nothing to believe: terms of contracts that other crates cite.
pub mod Terms
