-- The laws of entries and result columns.
pub mod Examples
pub mod Rank
pub mod RankCompare
pub mod Results
pub mod Below
pub mod PutAt
pub mod Within
pub mod Queueing
pub mod Updated
pub mod LaterChild
pub mod Sifted
pub mod HeapedFrom
pub mod Drawn
pub mod QueueOf
