-- The laws of boxes and of their gaps.
pub mod RangeGap
pub mod Widened
pub mod Box
pub mod Ground
pub mod Examples
