-- Rows and calendars as the tables and boards of the argument over indices. Assumes nothing.
--   board_of mask n        the calendar's first n slots, eight places to a slot
--   table_of rows          the rows' windows
--   kept_of rows i         row i has a seat
--   order_of first rows    the service order, by rank
use Rattle.std.specs.Prelude.{ℕ, ◌*◌, ◌/◌, ◌%◌, ◌^◌, ◌≤◌, Bool, List, length, is_some, ◌==◌}
use Rattle.std.proofs.Common.{arith}
use Rattle.jobs.specs.declared.terms.Row.{Row}
use Rattle.dealing.specs.Boards.{Table, Board}
use Rattle.placing.specs.Placing.{row}

-- later places lie in no earlier slot
pub slots_rise : (p q : ℕ) → p ≤ q → p / 8 ≤ q / 8
slots_rise p q h = omega arith

abbrev pub board_of : (ℕ → ℕ) → ℕ → Board
board_of mask n = record { places = n * 8; free = λ p. (mask (p / 8) / 2 ^ (p % 8) % 2 == 1); slot = λ p. p / 8; rising = slots_rise }

abbrev pub table_of : List Row → Table
table_of rows = record { size = length rows; ready = λ i. (row rows i).ready; deadline = λ i. (row rows i).deadline }

abbrev pub kept_of : List Row → ℕ → Bool
kept_of rows i = is_some (row rows i).seat

abbrev pub order_of : (Row → Row → Bool) → List Row → ℕ → ℕ → Bool
order_of first rows i j = first (row rows i) (row rows j)
