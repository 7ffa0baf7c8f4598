-- What a plan is, what is promised of it, and the theorems. Assumes nothing.
--   Placing     places, placings and rivals
--   Plan        who is kept, and where they sit: the plan of a table in rank order
--   Promise     best, reasons, totals, one other
--   Orders      what a kind of weight, a rank order and a service order must obey; the orders in force
--   Theorems    the promises hold of every plan, and a table has one plan
--   Change      one job more, one less, or one in another rank: at most one other changes its standing
--   Index       rows and calendars as the tables and boards of the argument over indices
pub mod Placing
pub mod Plan
pub mod Promise
pub mod Orders
pub mod Index
pub mod Theorems
pub mod Change
