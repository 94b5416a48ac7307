-- The laws of the two lists of pairs and of the forecast.
pub mod Examples
pub mod Offset
pub mod NearSites
pub mod NearPairs
pub mod Written
pub mod DistanceList
pub mod PartnersAcross
pub mod ForecastAnswer
pub mod ForecastBound
pub mod KList
