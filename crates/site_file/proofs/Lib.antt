-- The laws of site files.
pub mod Bytes
pub mod File
pub mod ReadAnswer
pub mod WriteAnswer
pub mod ReaderAnswer
pub mod Word
pub mod SitesIn
pub mod RoundTrip
