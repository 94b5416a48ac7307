-- What a reader must believe of the exported calls beside the definitions that they cite.
pub mod Crosses
pub mod Lent
