-- What a reader must believe of site files. The laws are in `proofs/`.
pub mod Bytes
pub mod File
pub mod Calls
pub mod ReaderAnswer
pub mod RoundTrip
