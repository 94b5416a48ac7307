-- The laws of several jobs in one call.
pub mod Refusal
pub mod Answer
