-- What a reader must believe of the K list, the distance list and the forecast. The laws are in `proofs/`.
pub mod KList
pub mod DistanceList
pub mod Forecast
-- Nothing to believe: terms that only this crate's functions cite.
pub mod Internal
