-- What the questions about a plan answer. Assumes nothing.
--   SeatOf rows n s                  s is the seat of the job with the number n, or None where it has none or is not in the table
--   StretchOf rows n r               r is the stretch of the dropped job n, or why it has none
--   kept_count, dropped_count        how many rows have a seat, and how many have none
--   total_of_dropped nothing plus    the total of the dropped rows' weights
use Rattle.std.specs.Prelude.{◌≡◌, ℕ, suc, ◌<◌, cond, List, [], ◌∷◌, length, is_some, Some, None, Ok, Err, Option, Result}
use Rattle.jobs.specs.declared.terms.Row.{Row}
use Rattle.jobs.specs.declared.terms.Seat.{Seat}
use Rattle.jobs.specs.declared.terms.Standing.TheVariants as standings
use Rattle.placing.specs.Placing.{row, Dropped}
use Rattle.placing.specs.Plan.{Stretch, Stands}
use Rattle.calls.specs.declared.terms.StretchFault.{StretchFault}
use Rattle.calls.specs.declared.terms.StretchFault.TheVariants.{NumberUnknown, JobKept}

abbrev pub SeatOf : List Row → ℕ → Option Seat → Type 0
SeatOf rows number None = (i : ℕ) → i < length rows → (row rows i).number ≡ number → (row rows i).seat ≡ None
SeatOf rows number (Some p) = (i : ℕ) × (i < length rows) × ((row rows i).number ≡ number) × ((row rows i).seat ≡ Some p)

abbrev pub StretchOf : List Row → ℕ → Result (ℕ × ℕ) StretchFault → Type 0
StretchOf rows number (Ok run) = (i : ℕ) × (i < length rows) × ((row rows i).number ≡ number) × Dropped rows i × Stretch rows i run.0 run.1
StretchOf rows number (Err NumberUnknown) = Stands rows number standings.Absent
StretchOf rows number (Err JobKept) = Stands rows number standings.Kept

abbrev pub kept_count : List Row → ℕ
kept_count [] = 0
kept_count (r ∷ rows) = cond (is_some r.seat) (suc (kept_count rows)) (kept_count rows)

abbrev pub dropped_count : List Row → ℕ
dropped_count [] = 0
dropped_count (r ∷ rows) = cond (is_some r.seat) (dropped_count rows) (suc (dropped_count rows))

module _ {W X : Type 0} (nothing : X) (plus : X → W → X) where
  abbrev pub total_of_dropped : List Row → List W → X
  total_of_dropped [] ws = nothing
  total_of_dropped (r ∷ rs) [] = nothing
  total_of_dropped (r ∷ rs) (w ∷ ws) = cond (is_some r.seat) (total_of_dropped rs ws) (plus (total_of_dropped rs ws) w)
