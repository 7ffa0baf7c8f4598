-- Open places, numbered one after the other, as links of slots. Assumes nothing.
--   SeatAt mask p seat               open place p is this seat: the link is open, and p open places come before it
--   Once places n k                  no row below k sits at two of the first n places
--   SeatsRead mask places seats p    the rows at the places below p have their seats, and the others none
--   open_at mask w                   the w-th link of all, eight to a slot, is open
--   open_before mask w               how many open links come before it
--   row_at mask k places w           the row that sits at it, or k
use Rattle.std.specs.Prelude.{◌≡◌, ℕ, ◌+◌, ◌/◌, ◌%◌, ◌^◌, ◌<◌, Bool, cond, List, length, None, Option, MatchOption, ◌==◌, count_ones, slice_index_or}
use Rattle.calendars.specs.Places.{opens}
use Rattle.jobs.specs.declared.terms.Seat.{Seat}
use Rattle.placing.specs.Placing.{Open}
use Rattle.drawing.specs.Trial.{seat_of}
use Rattle.drawing.specs.Walk.{In}

pub record SeatAt (mask : ℕ → ℕ) (p : ℕ) (seat : Seat) : Type 0 where
  pub slot : seat.slot < 1024
  pub opened : Open mask seat
  pub place : p ≡ opens mask seat.slot + count_ones (mask seat.slot % 2 ^ seat.link)

abbrev pub Once : (places : List (Option ℕ)) (n k : ℕ) → Type 0
Once places n k = (p q : ℕ) → p < n → q < n → seat_of places p < k → seat_of places p ≡ seat_of places q → p ≡ q

pub record SeatsRead (mask : ℕ → ℕ) (places : List (Option ℕ)) (seats : List (Option Seat)) (p : ℕ) : Type 0 where
  pub made : (q : ℕ) → q < p → seat_of places q < length seats → MatchOption (slice_index_or seats (seat_of places q) None) ⊥ (SeatAt mask q)
  pub others : (i : ℕ) → (In (seat_of places) p i → ⊥) → slice_index_or seats i None ≡ None

abbrev pub open_at : (ℕ → ℕ) → ℕ → Bool
open_at mask w = mask (w / 8) / 2 ^ (w % 8) % 2 == 1

abbrev pub open_before : (ℕ → ℕ) → ℕ → ℕ
open_before mask w = opens mask (w / 8) + count_ones (mask (w / 8) % 2 ^ (w % 8))

abbrev pub row_at : (ℕ → ℕ) → ℕ → List (Option ℕ) → ℕ → ℕ
row_at mask k places w = cond (open_at mask w) (seat_of places (open_before mask w)) k
