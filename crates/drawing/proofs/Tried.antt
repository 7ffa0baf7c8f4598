-- One trial of a row: the places after it are dealt to one row more, or there is no placing of them all. Assumes nothing.
use Rattle.std.proofs.Common.{◌≡◌, ℕ, ◌<◌, ◌≤◌, Bool, true, List, length, Option, refl, inl, inr, arith}
use Rattle.jobs.specs.declared.terms.Row.{Row}
use Rattle.dealing.specs.Boards.{Placing}
use Rattle.dealing.specs.Choice.{adding}
use Rattle.dealing.specs.Dealing.{Ordered}
use Rattle.dealing.proofs.Choice.{adding_from, adding_parts, below_parts}
use Rattle.placing.specs.Index.{table_of}
use Rattle.placing.specs.Placing.{row, Apart}
use Rattle.placing.proofs.Orders.{earliest_then_lower_serves}
use Rattle.drawing.specs.Slots.{board_by, Numbered}
use Rattle.drawing.specs.Draw.{Drawable}
use Rattle.drawing.specs.Trial.{order, seat_of, start, carried_in, settled_in, SucceedsIn, FailsIn, below, DealtToAll}
use Rattle.drawing.proofs.Slots.{in_slot, below_slot}
use Rattle.drawing.proofs.Walk.{succeeds, fails, placed_by}

ordered : (rows : List Row) → Apart rows → Ordered (table_of rows) (order rows)
ordered rows apart = record {
  trans = λ i j k _ _ _ h g. earliest_then_lower_serves.trans (row rows i) (row rows j) (row rows k) h g;
  either = λ i j l m ne. earliest_then_lower_serves.either (row rows i) (row rows j) (λ e. ne (apart i j l m e));
}

deadlines : (rows : List Row) (i j : ℕ) → i < length rows → j < length rows → order rows i j ≡ true → (row rows i).deadline ≤ (row rows j).deadline
deadlines rows i j _ _ h = earliest_then_lower_serves.deadlines (row rows i) (row rows j) h

adds : (kept : ℕ → Bool) (x : ℕ) → adding kept x x ≡ true
adds kept x = adding_from kept x x (inr refl)

fresh : (kept : ℕ → Bool) (x : ℕ) → below kept x x ≡ true → ⊥
fresh kept x h = let l = (below_parts kept x x h).0 in omega arith

grows : (kept : ℕ → Bool) (x j : ℕ) → below kept x j ≡ true → adding kept x j ≡ true
grows kept x j h = adding_from kept x j (inl (below_parts kept x j h))

module _ (rows : List Row) (counts : List ℕ) (at : List (Option ℕ)) (x : ℕ) (drawable : Drawable rows) (numbered : Numbered counts) (within : x < length rows) (early : (row rows x).ready ≤ 1024)
    (kept : ℕ → Bool) (filled : DealtToAll rows counts (below kept x) at) where
  ready : (row rows x).ready ≤ (board_by counts).slot (start rows counts x)
  ready = in_slot counts numbered (row rows x).ready (start rows counts x) early (omega arith)

  before : (p : ℕ) → p < start rows counts x → (board_by counts).slot p < (row rows x).ready
  before p h = below_slot counts numbered (row rows x).ready p early h

  pub tried : (new : List (Option ℕ)) (e : ℕ) → SucceedsIn rows counts at x e → ((q : ℕ) → q < e → seat_of new q ≡ settled_in rows counts at x q) →
      seat_of new e ≡ carried_in rows counts at x e → ((q : ℕ) → e < q → seat_of new q ≡ seat_of at q) → DealtToAll rows counts (adding kept x) new
  tried new e h front here back =
      let w = succeeds (board_by counts) (table_of rows) (order rows) (ordered rows drawable.apart) (deadlines rows) (λ p l. refl) (below kept x) (adding kept x) x within
      (adds kept x) (fresh kept x) (grows kept x) (adding_parts kept x) (seat_of at) filled.dealt
      (start rows counts x) ready before e h (seat_of new) front here (λ q l m. back q l) in
      record { dealt = w.0; seats = w.1 filled.seats }

  pub refused : (e : ℕ) → FailsIn rows counts at x e → Placing (board_by counts) (table_of rows) (adding kept x) → ⊥
  refused e h =
      fails (board_by counts) (table_of rows) (order rows) (ordered rows drawable.apart) (deadlines rows) (λ p l. refl) (below kept x) (adding kept x) x within
      (adds kept x) (fresh kept x) (grows kept x) (adding_parts kept x) (seat_of at) filled.dealt
      (start rows counts x) ready before e h

pub placing : (rows : List Row) (counts : List ℕ) (at : List (Option ℕ)) (K : ℕ → Bool) → DealtToAll rows counts K at → Placing (board_by counts) (table_of rows) K
placing rows counts at K f = placed_by (board_by counts) (table_of rows) (order rows) (deadlines rows) K (seat_of at) f.dealt f.seats
