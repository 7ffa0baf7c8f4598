-- The trial of a row among the rows that have places already. Assumes nothing.
--   order rows                                               the order of service in force, by rank
--   seat_of places p                                         the row that sits at open place p, or 256, which no row is: nobody
--   OfRows places k                                          none but the first k rows sits at a place
--   start rows counts x                                      the first open place of the window of row x
--   carried_in, settled_in, PassedIn, SucceedsIn, FailsIn    the walk of a trial, over these rows, counts and places
--   below kept x                                             the rows kept before row x
--   DealtToAll rows counts K places                          the places are dealt to the rows of K in the order of service, and each of them has one
--   Chosen rows counts places                                so they are dealt to the rows that are kept in turn
use Rattle.std.specs.Prelude.{◌≡◌, ℕ, ◌<◌, Bool, true, ◌&&◌, List, length, Option, Some, None, unwrap_or, nat_lt, slice_index, slice_index_or}
use Rattle.jobs.specs.declared.terms.Row.{Row}
use Rattle.dealing.specs.Dealing.{DealtInOrder}
use Rattle.dealing.specs.Choice.{Greedy}
use Rattle.placing.specs.Index.{table_of, order_of}
use Rattle.placing.specs.Orders.{earliest_then_lower}
use Rattle.placing.specs.Placing.{row}
use Rattle.drawing.specs.Slots.{board_by}
use Rattle.drawing.specs.Walk.{carried, settled, Passed, Succeeds, Fails, In}

abbrev pub order : List Row → ℕ → ℕ → Bool
order rows = order_of earliest_then_lower rows

abbrev pub seat_of : List (Option ℕ) → ℕ → ℕ
seat_of places p = unwrap_or (slice_index_or places p None) 256

abbrev pub OfRows : List (Option ℕ) → ℕ → Type 0
OfRows places k = (p i : ℕ) → slice_index_or places p None ≡ Some i → i < k

abbrev pub start : List Row → List ℕ → ℕ → ℕ
start rows counts x = slice_index counts (row rows x).ready

abbrev pub carried_in : List Row → List ℕ → List (Option ℕ) → ℕ → ℕ → ℕ
carried_in rows counts places x p = carried (order rows) (seat_of places) (start rows counts x) x p

abbrev pub settled_in : List Row → List ℕ → List (Option ℕ) → ℕ → ℕ → ℕ
settled_in rows counts places x p = settled (order rows) (seat_of places) (start rows counts x) x p

abbrev pub PassedIn : List Row → List ℕ → List (Option ℕ) → ℕ → ℕ → Type 0
PassedIn rows counts places x p = Passed (board_by counts) (table_of rows) (order rows) (seat_of places) (start rows counts x) x p

abbrev pub SucceedsIn : List Row → List ℕ → List (Option ℕ) → ℕ → ℕ → Type 0
SucceedsIn rows counts places x e = Succeeds (board_by counts) (table_of rows) (order rows) (seat_of places) (start rows counts x) x e

abbrev pub FailsIn : List Row → List ℕ → List (Option ℕ) → ℕ → ℕ → Type 0
FailsIn rows counts places x e = Fails (board_by counts) (table_of rows) (order rows) (seat_of places) (start rows counts x) x e

abbrev pub below : (ℕ → Bool) → ℕ → ℕ → Bool
below kept x j = nat_lt j x && kept j

pub record DealtToAll (rows : List Row) (counts : List ℕ) (K : ℕ → Bool) (places : List (Option ℕ)) : Type 0 where
  pub dealt : DealtInOrder (board_by counts) (table_of rows) (order rows) K (slice_index counts 1024) (seat_of places)
  pub seats : (i : ℕ) → i < length rows → K i ≡ true → In (seat_of places) (slice_index counts 1024) i

abbrev pub Chosen : List Row → List ℕ → List (Option ℕ) → Type 0
Chosen rows counts places = (kept : ℕ → Bool) × Greedy (board_by counts) (table_of rows) kept × DealtToAll rows counts kept places
