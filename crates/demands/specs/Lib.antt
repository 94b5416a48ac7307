-- The users' demands 2 and 3, the forecast and the prices beside demand 2, the two customers apart, a smaller K in
-- mid-campaign, several jobs in one call, the book, and the fixed examples. The proofs are in `proofs/`.
pub mod Book
pub mod Customers
pub mod History
pub mod Demand2
pub mod Forecast
pub mod Prices
pub mod Demand3
pub mod SmallerK
pub mod JobsInTurn
pub mod Examples
