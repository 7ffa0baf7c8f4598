-- The stretch of a dropped row: there is one, and it is full of rows kept before it. Assumes nothing.
use Rattle.std.proofs.Common.{◌≡◌, ℕ, ◌/◌, ◌<◌, ◌≤◌, true, List, length, is_some, Some, sym, ap, ◌∙◌, arith}
use Rattle.jobs.specs.declared.terms.Row.{Row}
use Rattle.jobs.specs.declared.terms.Seat.{Seat}
use Rattle.dealing.specs.Stretches.{Run}
use Rattle.dealing.proofs.Stretches.{stretch_exists, stretch_is_full}
use Rattle.placing.specs.Placing.{row, Open, Dropped, Placing}
use Rattle.placing.specs.Plan.{KeptRule, Closed, Stretch}
use Rattle.placing.specs.Index.{board_of, table_of, kept_of}
use Rattle.placing.specs.Theorems.{DroppedHasFullStretch}
use Rattle.placing.proofs.Index.{Ends, place, place_of, some_of, place_once, open_free, indexed, indexed_seat, greedy, ends_by}

module _ (mask : ℕ → ℕ) (n : ℕ) (rows : List Row) (ends : Ends n rows) (s : Placing mask rows) where
  at_slot : (j : ℕ) (p : Seat) → j < length rows → (row rows j).seat ≡ Some p → (place_of (row rows j).seat / 8 ≡ p.slot) × (kept_of rows j ≡ true)
  at_slot j p l e =
      let z = (s.sits j p l e).0.0 in
      let q : place p / 8 ≡ p.slot = omega arith in
      (ap (λ o. place_of o / 8) e ∙ q, ap is_some e)

  -- who sits at the place of p sits on p
  pub sits_on : (j : ℕ) (p : Seat) → j < length rows → kept_of rows j ≡ true → p.link < 8 → place_of (row rows j).seat ≡ place p → (row rows j).seat ≡ Some p
  sits_on j p l k h z =
      let w = some_of (row rows j).seat k in
      let o = (s.sits j w.0 l w.1).0.0 in
      w.1 ∙ ap Some (place_once w.0 p o h (sym (ap place_of w.1) ∙ z))

  abbrev Runs : ℕ → ℕ → ℕ → Type 0
  Runs i lo hi = Run (board_of mask n) (table_of rows) (kept_of rows) (indexed mask n rows ends s) i lo hi

  run_to : (i lo hi : ℕ) → lo ≤ (row rows i).ready → (row rows i).deadline ≤ hi → Closed rows lo hi → Runs i lo hi
  run_to i lo hi a b c = (
    a,
    b,
    λ j l k x y.
        let w = some_of (row rows j).seat k in
        let z = (at_slot j w.0 l w.1).0 in
        let t = indexed_seat mask n rows ends s j in
        c j w.0 l w.1 (omega arith) (omega arith),
  )

  run_from : (i lo hi : ℕ) → Runs i lo hi → Closed rows lo hi
  run_from i lo hi r j p l e x y = let z = at_slot j p l e in let q = z.0 in let t = indexed_seat mask n rows ends s j in r.2 j l z.1 (omega arith) (omega arith)

  closed_all : Closed rows 0 n
  closed_all j p l e x y = (omega arith, ends j l)

  module _ (rule : KeptRule mask rows) where
    has_stretch : (i : ℕ) → i < length rows → Dropped rows i → (lo : ℕ) × (hi : ℕ) × Stretch rows i lo hi
    has_stretch i l d =
        let w = stretch_exists (board_of mask n) (table_of rows) (kept_of rows) (greedy mask n rows ends rule) (indexed mask n rows ends s) i l d in (
          w.0,
          w.1,
          record {
            around = (w.2.0, w.2.1);
            closed = run_from i w.0 w.1 w.2;
            least = λ from to a b c. w.3 from to (run_to i from to a b c);
          },
        )

    full_stretch : (i lo hi : ℕ) → i < length rows → Dropped rows i → Stretch rows i lo hi → (p : Seat) → Open mask p → lo ≤ p.slot → p.slot < hi →
        (j : ℕ) × (j < i) × ((row rows j).seat ≡ Some p) × (lo ≤ (row rows j).ready) × ((row rows j).deadline ≤ hi)
    full_stretch i lo hi l d st p o a b =
        let f = st.least 0 n (omega arith) (ends i l) closed_all in
        let k = o.0 in
        let w = stretch_is_full (board_of mask n) (table_of rows) (kept_of rows) (greedy mask n rows ends rule) (indexed mask n rows ends s) i l d lo hi
        (run_to i lo hi st.around.0 st.around.1 st.closed)
        (λ x y r. st.least x y r.0 r.1 (run_from i x y r))
        (place p) (omega arith) (open_free mask n p o) (omega arith) (omega arith) in
        (w.0, w.1, sits_on w.0 p (omega arith) w.2 o.0 (sym (indexed_seat mask n rows ends s w.0) ∙ w.5), w.3, w.4)

-- each stretch of a dropped row is full
pub stretch_full : (mask : ℕ → ℕ) (rows : List Row) → KeptRule mask rows → Placing mask rows → (i lo hi : ℕ) → i < length rows → Dropped rows i → Stretch rows i lo hi →
    (p : Seat) → Open mask p → lo ≤ p.slot → p.slot < hi →
    (j : ℕ) × (j < i) × ((row rows j).seat ≡ Some p) × (lo ≤ (row rows j).ready) × ((row rows j).deadline ≤ hi)
stretch_full mask rows rule s i lo hi l h st = let n = ends_by rows in full_stretch mask n.0 rows n.1 s rule i lo hi l h st

pub dropped_has_full_stretch : DroppedHasFullStretch
dropped_has_full_stretch mask rows rule s i l h =
    let n = ends_by rows in
    let w = has_stretch mask n.0 rows n.1 s rule i l h in
    (w.0, w.1, w.2, stretch_full mask rows rule s i w.0 w.1 l h w.2)
