-- Places, placings and rivals. A calendar stands here by its masks alone: mask s is the eight-bit mask of slot s. Assumes nothing.
--   row rows i                        row i of a table, in rank order
--   Open mask p                       place p is open: its link is below 8, and its bit of the slot's mask is set
--   InWindow ready deadline slot      the slot lies in the window
--   Kept rows i, Dropped rows i       row i has a seat, or none
--   Placing mask rows                 each kept row sits on an open place in its window, no two on the same
--   SameJob, SameTable                the same number and window; the same jobs in the same order, with seats of their own
--   Rival mask rows others            any placing of the same jobs
--   Apart rows                        no two rows have one number
use Rattle.std.specs.Prelude.{◌≡◌, ℕ, ◌/◌, ◌%◌, ◌^◌, ◌<◌, ◌≤◌, true, false, List, length, is_some, Some, None, slice_index_or}
use Rattle.jobs.specs.declared.terms.Row.{Row}
use Rattle.jobs.specs.declared.terms.Seat.{Seat}

-- what a table has past its last row
abbrev pub blank : Row
blank = record { number = 0; ready = 0; deadline = 0; seat = None }

abbrev pub row : List Row → ℕ → Row
row rows i = slice_index_or rows i blank

abbrev pub Open : (ℕ → ℕ) → Seat → Type 0
Open mask p = (p.link < 8) × (mask p.slot / 2 ^ p.link % 2 ≡ 1)

abbrev pub InWindow : (ready deadline slot : ℕ) → Type 0
InWindow ready deadline slot = (ready ≤ slot) × (slot < deadline)

abbrev pub Kept : List Row → ℕ → Type 0
Kept rows i = is_some (row rows i).seat ≡ true

abbrev pub Dropped : List Row → ℕ → Type 0
Dropped rows i = is_some (row rows i).seat ≡ false

pub record Placing (mask : ℕ → ℕ) (rows : List Row) : Type 0 where
  pub sits : (i : ℕ) (p : Seat) → i < length rows → (row rows i).seat ≡ Some p → Open mask p × InWindow (row rows i).ready (row rows i).deadline p.slot
  pub alone : (i j : ℕ) (p : Seat) → i < length rows → j < length rows → (row rows i).seat ≡ Some p → (row rows j).seat ≡ Some p → i ≡ j

abbrev pub SameJob : Row → Row → Type 0
SameJob r s = (r.number ≡ s.number) × (r.ready ≡ s.ready) × (r.deadline ≡ s.deadline)

pub record SameTable (rows others : List Row) : Type 0 where
  pub size : length others ≡ length rows
  pub jobs : (i : ℕ) → i < length rows → SameJob (row rows i) (row others i)

pub record Rival (mask : ℕ → ℕ) (rows others : List Row) : Type 0 where
  pub table : SameTable rows others
  pub placing : Placing mask others

abbrev pub Apart : List Row → Type 0
Apart rows = (i j : ℕ) → i < length rows → j < length rows → (row rows i).number ≡ (row rows j).number → i ≡ j
