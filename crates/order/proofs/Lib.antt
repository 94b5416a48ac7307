-- The laws of orders, lists, insertion, the best K and heaps.
pub mod Order
pub mod Weights
pub mod Lists
pub mod SameBy
pub mod Best
pub mod Sorted
pub mod Places
pub mod Foremost
pub mod Choice
pub mod Heap
