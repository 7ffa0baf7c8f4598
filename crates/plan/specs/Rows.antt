-- Rows of a table. Assumes nothing.
--   Distinct rows      no two of the rows have one number
--   Windows rows       each row has a window, and it ends by slot 1,024
--   Numbered rows      no row has the number 0
--   Tabled rows        a plan's table may hold the rows: at most 256, no number twice and none 0, each with its window
--   OthersStay ..      each number of the table before, but for the named one, is one of the table after
--   with_seat row s    the same job with the seat s, or with none
use Rattle.std.specs.Prelude.{◌≡◌, ℕ, ◌<◌, ◌≤◌, List, length, Option, ◌≢◌}
use Rattle.jobs.specs.declared.terms.Row.{Row}
use Rattle.jobs.specs.declared.terms.Seat.{Seat}
use Rattle.jobs.specs.Admission.{Window}
use Rattle.placing.specs.Placing as placing

abbrev pub Distinct : List Row → Type 0
Distinct rows = (i j : ℕ) → i < j → j < length rows → (placing.row rows i).number ≢ (placing.row rows j).number

abbrev pub Windows : List Row → Type 0
Windows rows = (i : ℕ) → i < length rows → Window (placing.row rows i).ready (placing.row rows i).deadline

abbrev pub Numbered : List Row → Type 0
Numbered rows = (i : ℕ) → i < length rows → 0 < (placing.row rows i).number

pub record Tabled (rows : List Row) : Type 0 where
  pub few : length rows ≤ 256
  pub distinct : Distinct rows
  pub numbered : Numbered rows
  pub windows : Windows rows

abbrev pub OthersStay : (before after : List Row) (named : ℕ) → Type 0
OthersStay before after named = (i : ℕ) → i < length before → ((placing.row before i).number ≢ named) → (j : ℕ) × (j < length after) × ((placing.row after j).number ≡ (placing.row before i).number)

abbrev pub with_seat : Row → Option Seat → Row
with_seat row s = record { number = row.number; ready = row.ready; deadline = row.deadline; seat = s }
