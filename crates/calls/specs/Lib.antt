-- Calls on a plan, and what they make of it. Assumes nothing.
--   Faults      the numbers of the refusals
--   Moments     a plan with the store beside it at one moment, and the rules in force
--   Calls       when a call is refused, what it answers and leaves, and every run of calls
--   Alone       a call at a moment has one outcome, and a run of calls too
--   Questions   what the questions answer
pub mod Faults
pub mod Moments
pub mod Calls
pub mod Alone
pub mod Questions
