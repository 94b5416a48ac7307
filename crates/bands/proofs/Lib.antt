-- The laws of price bands.
pub mod Examples
pub mod Bands
pub mod Entries
pub mod Gathered
pub mod TariffLaws
pub mod Cover
pub mod Ends
pub mod PriceRead
pub mod PriceAnswer
