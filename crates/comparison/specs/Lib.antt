-- What a reader must believe of the comparison as it is exported.
pub mod Comparison
