-- Rows that have been given their seats, one by one. Assumes nothing.
use Rattle.std.proofs.Common.{◌≡◌, ℕ, ◌<◌, ◌≤◌, Bool, true, false, List, length, get_or, None, Option, sym, refl, ap, ◌∙◌, subst, arith}
use Rattle.std.proofs.lemmas.List.{same_lists, get_or_default}
use Rattle.jobs.specs.declared.terms.Row.{Row}
use Rattle.jobs.specs.declared.terms.Seat.{Seat}
use Rattle.placing.specs.Placing.{row, blank}
use Rattle.placing.proofs.Seats.{row_same}
use Rattle.placing.specs.Orders.{earliest_then_lower}
use Rattle.placing.specs.Plan.{Drawn}
use Rattle.drawing.specs.Draw.{Drawable, seated, Draws}
use Rattle.drawing.proofs.Links.{seated_length, seated_job}
use Rattle.plan.specs.Rows.{Distinct, Windows, with_seat}
use Rattle.plan.proofs.Rows.{distinct_apart}

seated_row : (rows : List Row) (seats : List (Option Seat)) (k : ℕ) → k < length rows → row (seated rows seats) k ≡ with_seat (row rows k) (get_or seats k None)
seated_row rows seats k l = let j = seated_job rows seats k l in row_same _ _ (sym j.0.0, sym j.0.1, sym j.0.2) j.1

pub all_seats : (rows after : List Row) (seats : List (Option Seat)) → length after ≡ length rows →
    ((k : ℕ) → k < length rows → row after k ≡ with_seat (row rows k) (get_or seats k None)) → after ≡ seated rows seats
all_seats rows after seats long each =
    let n = seated_length rows seats in
    same_lists after (seated rows seats) (long ∙ sym n) (λ k d h.
    let l : k < length rows = omega arith in
    get_or_default after k d blank h ∙ (each k l ∙ (sym (seated_row rows seats k l) ∙ get_or_default (seated rows seats) k blank d (omega arith))))

-- a table whose rows have their windows can be drawn
pub can_draw : (rows : List Row) → length rows ≤ 256 → Distinct rows → Windows rows → Drawable rows
can_draw rows few distinct windows = record { few = few; deadlines = λ i l. (windows i l).1; apart = distinct_apart rows distinct }

-- rows that can be drawn are drawn
pub draws : (mask : ℕ → ℕ) (rows lent : List Row) (before after : List (Option Seat)) (r : Bool) → lent ≡ rows → Drawable rows → length before ≡ length rows → Draws mask lent before after r →
    Drawn earliest_then_lower mask (seated rows after)
draws mask rows lent before after true e drawable long d = subst (λ rs. Drawn earliest_then_lower mask (seated rs after)) e d.2
draws mask rows lent before after false e drawable long d = absurd (d.0 (subst Drawable (sym e) drawable, long ∙ ap length (sym e)))

-- and not refused
pub is_drawn : (mask : ℕ → ℕ) (rows lent : List Row) (before after : List (Option Seat)) (r : Bool) → lent ≡ rows → Drawable rows → length before ≡ length rows → Draws mask lent before after r →
    r ≡ true
is_drawn mask rows lent before after true e drawable long d = refl
is_drawn mask rows lent before after false e drawable long d = absurd (d.0 (subst Drawable (sym e) drawable, long ∙ ap length (sym e)))
