-- The proofs of the users' demands 2 and 3, of the forecast and the prices beside demand 2, of the customers apart, of a
-- smaller K in mid-campaign, of several jobs in one call, and of the fixed examples.
pub mod Examples
pub mod KClosest
pub mod Demand2
pub mod Forecast
pub mod Prices
pub mod Accepted
pub mod Marks
pub mod GridAfter
pub mod Readings
pub mod Customers
pub mod Book
pub mod Marked
pub mod Invariant
pub mod History
pub mod Demand3
pub mod SmallerK
pub mod JobsInTurn
