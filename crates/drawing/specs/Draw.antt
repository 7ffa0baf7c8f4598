-- What the draw takes, answers and leaves. Assumes nothing.
--   Drawable rows                       at most 256 rows, no deadline above 1,024, no two rows with one number
--   Takes rows seats                    the rows can be drawn, and there are as many seats as rows
--   seated rows seats                   the rows with these seats in place of their own
--   Draws mask rows before after r      r is true where the draw takes them, and then the rows with the seats after it are the plan of their jobs;
--                                       else r is false, and the seats are as before
use Rattle.std.specs.Prelude.{◌≡◌, ℕ, ◌<◌, ◌≤◌, Bool, true, false, List, [], ◌∷◌, length, None, Option}
use Rattle.jobs.specs.declared.terms.Row.{Row}
use Rattle.jobs.specs.declared.terms.Seat.{Seat}
use Rattle.placing.specs.Orders.{earliest_then_lower}
use Rattle.placing.specs.Placing.{row, Apart}
use Rattle.placing.specs.Plan.{Drawn}

pub record Drawable (rows : List Row) : Type 0 where
  pub few : length rows ≤ 256
  pub deadlines : (i : ℕ) → i < length rows → (row rows i).deadline ≤ 1024
  pub apart : Apart rows

abbrev pub Takes : List Row → List (Option Seat) → Type 0
Takes rows seats = Drawable rows × (length seats ≡ length rows)

abbrev pub seated : List Row → List (Option Seat) → List Row
seated [] seats = []
seated (r ∷ rs) [] = record { number = r.number; ready = r.ready; deadline = r.deadline; seat = None } ∷ seated rs []
seated (r ∷ rs) (s ∷ seats) = record { number = r.number; ready = r.ready; deadline = r.deadline; seat = s } ∷ seated rs seats

abbrev pub Draws : (mask : ℕ → ℕ) (rows : List Row) (before after : List (Option Seat)) → Bool → Type 0
Draws mask rows before after true = Takes rows before × (length after ≡ length rows) × Drawn earliest_then_lower mask (seated rows after)
Draws mask rows before after false = (Takes rows before → ⊥) × (after ≡ before)
