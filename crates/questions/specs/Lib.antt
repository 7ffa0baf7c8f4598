-- What the questions about rows and a store answer. Assumes nothing.
--   Stores      whether a store serves the rows that it lies beside
--   Widening    how a run of slots grows to a stretch
pub mod Stores
pub mod Widening
