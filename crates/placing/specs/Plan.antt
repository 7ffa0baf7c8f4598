-- The plan of a table in rank order: who is kept, where they sit, and what stretch a row has. Assumes nothing.
--   Together mask rows i         row i, and all kept before it, have a placing together
--   KeptRule mask rows           a row is kept exactly when it and all kept before it have a placing together
--   Earlier p q                  place p is dealt before place q: slot by slot upward, lowest link first
--   Dealt first mask rows        each open place went to the ready kept row, not yet seated, that goes first
--   Drawn first mask rows        the rows are the plan of their jobs, in this rank order and with this order of service
--   Closed rows lo hi            the slots from lo up to hi hold the whole window of each row seated in them
--   Stretch rows i lo hi         the smallest such run of slots round the window of row i
--   Stands rows number standing  the standing of the number: kept, dropped, or absent
use Rattle.std.specs.Prelude.{◌≡◌, ℕ, ◌<◌, ◌≤◌, Bool, true, ◌⊎◌, List, length, Some, ◌≢◌}
use Rattle.jobs.specs.declared.terms.Row.{Row}
use Rattle.jobs.specs.declared.terms.Seat.{Seat}
use Rattle.jobs.specs.declared.terms.Standing.{Standing}
use Rattle.jobs.specs.declared.terms.Standing.TheVariants as standings
use Rattle.placing.specs.Placing.{row, Open, Kept, Dropped, Placing, Rival}

abbrev pub Together : (ℕ → ℕ) → List Row → ℕ → Type 0
Together mask rows i = (others : List Row) × Rival mask rows others × ((j : ℕ) → j < i → Kept rows j → Kept others j) × Kept others i

pub record KeptRule (mask : ℕ → ℕ) (rows : List Row) : Type 0 where
  pub kept : (i : ℕ) → i < length rows → Kept rows i → Together mask rows i
  pub dropped : (i : ℕ) → i < length rows → Dropped rows i → Together mask rows i → ⊥

abbrev pub Earlier : Seat → Seat → Type 0
Earlier p q = (p.slot < q.slot) ⊎ ((p.slot ≡ q.slot) × (p.link < q.link))

abbrev pub Dealt : (Row → Row → Bool) → (ℕ → ℕ) → List Row → Type 0
Dealt first mask rows = (p q : Seat) (i : ℕ) → Open mask p → i < length rows → (row rows i).seat ≡ Some q → (row rows i).ready ≤ p.slot → Earlier p q →
    (j : ℕ) × (j < length rows) × ((row rows j).seat ≡ Some p) × (first (row rows j) (row rows i) ≡ true)

pub record Drawn (first : Row → Row → Bool) (mask : ℕ → ℕ) (rows : List Row) : Type 0 where
  pub kept : KeptRule mask rows
  pub placing : Placing mask rows
  pub dealt : Dealt first mask rows

abbrev pub Closed : List Row → ℕ → ℕ → Type 0
Closed rows lo hi = (j : ℕ) (p : Seat) → j < length rows → (row rows j).seat ≡ Some p → lo ≤ p.slot → p.slot < hi → (lo ≤ (row rows j).ready) × ((row rows j).deadline ≤ hi)

pub record Stretch (rows : List Row) (i lo hi : ℕ) : Type 0 where
  pub around : (lo ≤ (row rows i).ready) × ((row rows i).deadline ≤ hi)
  pub closed : Closed rows lo hi
  pub least : (from to : ℕ) → from ≤ (row rows i).ready → (row rows i).deadline ≤ to → Closed rows from to → (from ≤ lo) × (hi ≤ to)

abbrev pub Stands : List Row → ℕ → Standing → Type 0
Stands rows number standings.Kept = (i : ℕ) × (i < length rows) × ((row rows i).number ≡ number) × Kept rows i
Stands rows number standings.Dropped = (i : ℕ) × (i < length rows) × ((row rows i).number ≡ number) × Dropped rows i
Stands rows number standings.Absent = (i : ℕ) → i < length rows → (row rows i).number ≢ number
