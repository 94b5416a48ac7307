-- The laws of the case listing.
pub mod Every
pub mod Put
pub mod Decimal
pub mod Lines
pub mod EntryLines
pub mod ListingText
pub mod FileLists
pub mod Listing
pub mod Examples
