-- What a reader must believe of lists with every height 0. The proof is in `proofs/`.
pub mod Plane
