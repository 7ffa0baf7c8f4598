-- Runs of slots, widened towards a stretch. Assumes nothing.
--   Inside r lo hi            if row r is seated in the slots from lo up to hi, they hold its whole window
--   Widened P lo hi from to   the run from lo up to hi, widened to the run from `from` up to `to`: this lies in every run round the old
--                             one that has P, and where nothing has changed, the run has P
use Rattle.std.specs.Prelude.{◌≡◌, ℕ, ◌<◌, ◌≤◌, Some}
use Rattle.jobs.specs.declared.terms.Row.{Row}
use Rattle.jobs.specs.declared.terms.Seat.{Seat}

abbrev pub Inside : Row → ℕ → ℕ → Type 0
Inside r lo hi = (p : Seat) → r.seat ≡ Some p → lo ≤ p.slot → p.slot < hi → (lo ≤ r.ready) × (r.deadline ≤ hi)

pub record Widened (P : ℕ → ℕ → Type 0) (lo hi from to : ℕ) : Type 0 where
  pub around : (from ≤ lo) × (hi ≤ to)
  pub least : (a b : ℕ) → a ≤ lo → hi ≤ b → P a b → (a ≤ from) × (to ≤ b)
  pub same : from ≡ lo → to ≡ hi → P lo hi
