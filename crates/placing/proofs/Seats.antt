-- A drawn plan is the one way to deal the places to whoever is kept, so there is one alone. Assumes nothing.
--   at_of rows p    the row that sits at place p, or the number of rows
use Rattle.std.proofs.Common.{◌≡◌, ℕ, ◌*◌, ◌/◌, ◌<◌, Bool, true, false, ◌&&◌, eqb, List, length, is_some, Some, None, Option, sym, refl, ap, ◌∙◌, subst, inl, inr, arith}
use Rattle.std.proofs.lemmas.List.{ext_get_or}
use Rattle.std.proofs.lemmas.Bool.{cases_Bool, cases_lt, both_ways, and_parts, and_from, eqb-true, eq-eqb}
use Rattle.jobs.specs.declared.terms.Row.{Row}
use Rattle.jobs.specs.declared.terms.Seat.{Seat}
use Rattle.dealing.specs.Boards.{Sits}
use Rattle.dealing.specs.Dealing.{DealtInOrder}
use Rattle.dealing.proofs.Counting.{find, find_cases}
use Rattle.dealing.proofs.Dealing.{dealing_unique}
use Rattle.placing.specs.Placing.{blank, row, Placing, SameJob, SameTable}
use Rattle.placing.specs.Plan.{Earlier, Dealt, Drawn}
use Rattle.placing.specs.Orders.{ServiceOrder}
use Rattle.placing.specs.Index.{board_of, table_of, kept_of, order_of}
use Rattle.placing.specs.Theorems.{OnePlan}
use Rattle.placing.proofs.Index.{Ends, place, seat_at, place_of, some_of, place_seat, free_open, indexed, indexed_seat, same_ends, table_same, ends_by}
use Rattle.placing.proofs.Keeping.{same_kept}
use Rattle.placing.proofs.Stretches.{sits_on}

-- the row at a place, or the number of rows
abbrev sits_at : List Row → ℕ → ℕ → Bool
sits_at rows p j = kept_of rows j && eqb (place_of (row rows j).seat) p

abbrev at_of : List Row → ℕ → ℕ
at_of rows p = find (sits_at rows p) (length rows) (length rows)

at_yes : (rows : List Row) (p : ℕ) → at_of rows p < length rows → (kept_of rows (at_of rows p) ≡ true) × (place_of (row rows (at_of rows p)).seat ≡ p)
at_yes rows p l =
    elim (find_cases (sits_at rows p) (length rows) (length rows)) [
      | inl w ↦
          (let z = and_parts (kept_of rows (at_of rows p)) (eqb (place_of (row rows (at_of rows p)).seat) p) w.1 in
          (z.0, eqb-true (place_of (row rows (at_of rows p)).seat) p z.1))
      | inr w ↦ (let z = w.0 in absurd (omega arith))
    ]

module _ (mask : ℕ → ℕ) (n : ℕ) (rows : List Row) (ends : Ends n rows) (s : Placing mask rows) where
  at_is : (j p : ℕ) → j < length rows → kept_of rows j ≡ true → place_of (row rows j).seat ≡ p → at_of rows p ≡ j
  at_is j p l k e =
      elim (find_cases (sits_at rows p) (length rows) (length rows)) [
        | inl w ↦
            (let z = at_yes rows p w.0 in
            (indexed mask n rows ends s).apart (at_of rows p) j w.0 l z.0 k
            (indexed_seat mask n rows ends s (at_of rows p) ∙ (z.1 ∙ (sym e ∙ sym (indexed_seat mask n rows ends s j)))))
        | inr w ↦ absurd (both_ways (sits_at rows p j) (w.1 j l) (and_from (kept_of rows j) (eqb (place_of (row rows j).seat) p) k (eq-eqb (place_of (row rows j).seat) p e)))
      ]

  earlier_from : (p : ℕ) (q : Seat) → q.link < 8 → p < place q → Earlier (seat_at p) q
  earlier_from p q l h = elim (cases_lt (p / 8) q.slot) [ inl z ↦ inl z | inr z ↦ inr (omega arith, omega arith) ]

  -- seats dealt in an order, over indices
  in_order : (first : Row → Row → Bool) → Dealt first mask rows → DealtInOrder (board_of mask n) (table_of rows) (order_of first rows) (kept_of rows) (n * 8) (at_of rows)
  in_order first dealt = record {
    sits = λ p l h.
        let w = at_yes rows p h in
        let z = (indexed mask n rows ends s).sits (at_of rows p) h w.0 in
        let e : (indexed mask n rows ends s).seat (at_of rows p) ≡ p = indexed_seat mask n rows ends s (at_of rows p) ∙ w.1 in
        let y = subst (λ x. Sits (board_of mask n) (table_of rows) (at_of rows p) x) e z in
        (w.0, y.1, y.2, y.3);
    once = λ p q l m h e.
        let v = at_yes rows p h in
        let w = at_yes rows q (subst (λ x. x < length rows) e h) in
        sym v.1 ∙ (ap (λ x. place_of (row rows x).seat) e ∙ w.1);
    foremost = λ p i l f h k r d un.
        let v = some_of (row rows i).seat k in
        let b = (s.sits i v.0 h v.1).0.0 in
        let here = at_is i (place v.0) h k (ap place_of v.1) in
        let far : p < place v.0 = elim (cases_lt p (place v.0)) [ inl z ↦ z | inr z ↦ absurd (un (place v.0) z here) ] in
        let w = dealt (seat_at p) v.0 i (free_open mask n p f) h v.1 r (earlier_from p v.0 b far) in
        let e : at_of rows p ≡ w.0 = at_is w.0 p w.1 (ap is_some w.2) (ap place_of w.2 ∙ place_seat p) in
        subst (λ x. (x < length rows) × (order_of first rows x i ≡ true)) (sym e) (w.1, w.3);
  }

pub none_of : (o : Option Seat) → is_some o ≡ false → o ≡ None
none_of (Some p) h = absurd (both_ways true h refl)
none_of None h = refl

pub row_same : (r q : Row) → SameJob r q → r.seat ≡ q.seat → r ≡ q
row_same r q j s = λ k. record { number = j.0 k; ready = j.1 k; deadline = j.2 k; seat = s k }

-- a service order does not look at seats
pub order_same : (first : Row → Row → Bool) → ServiceOrder first → (rows others : List Row) → SameTable rows others → (i j : ℕ) → i < length rows → j < length rows →
    order_of first others i j ≡ true → order_of first rows i j ≡ true
order_same first o rows others t i j l m h = o.jobs (row others i) (row others j) (row rows i) (row rows j) (other_way i l) (other_way j m) h
  where
    other_way : (k : ℕ) → k < length rows → SameJob (row others k) (row rows k)
    other_way k kl = let s = t.jobs k kl in (sym s.0, sym s.1, sym s.2)

module _ (first : Row → Row → Bool) (o : ServiceOrder first) (mask : ℕ → ℕ) (rows others : List Row) (t : SameTable rows others) (dr : Drawn first mask rows) (od : Drawn first mask others)
    (n : ℕ) (ends : Ends n rows) where
  kept_like : (i : ℕ) → i < length rows → kept_of rows i ≡ kept_of others i
  kept_like = same_kept mask mask (λ _. refl) rows others t dr.kept od.kept

  ends' : Ends n others
  ends' = same_ends mask n rows others ends t

  -- the others' seats, as dealt to the rows
  their_order : DealtInOrder (board_of mask n) (table_of rows) (order_of first rows) (kept_of rows) (n * 8) (at_of others)
  their_order =
      let d = subst (λ u. DealtInOrder (board_of mask n) u (order_of first others) (kept_of others) (n * 8) (at_of others)) (table_same rows others t)
      (in_order mask n others ends' od.placing first od.dealt) in
      record {
        sits = λ p l h. let w = d.sits p l h in (kept_like (at_of others p) h ∙ w.0, w.1, w.2, w.3);
        once = d.once;
        foremost = λ p i l f h k r e un.
            let w = d.foremost p i l f h (sym (kept_like i h) ∙ k) r e un in
            (w.0, order_same first o rows others t (at_of others p) i w.0 h w.1);
      }

  never_both : (i j : ℕ) → order_of first rows i j ≡ true → order_of first rows j i ≡ true → ⊥
  never_both i j h k = o.never (row rows i) (o.trans (row rows i) (row rows j) (row rows i) h k)

  same_at : (p : ℕ) → p < n * 8 → at_of rows p < length rows → at_of others p ≡ at_of rows p
  same_at =
      dealing_unique (board_of mask n) (table_of rows) (order_of first rows) never_both (kept_of rows) (n * 8) (at_of rows) (at_of others)
      (in_order mask n rows ends dr.placing first dr.dealt) their_order

  same_seat : (i : ℕ) → i < length rows → (row rows i).seat ≡ (row others i).seat
  same_seat i l =
      elim (cases_Bool (kept_of rows i)) [
        | inr k ↦ none_of (row rows i).seat k ∙ sym (none_of (row others i).seat (sym (kept_like i l) ∙ k))
        | inl k ↦
            (let v = some_of (row rows i).seat k in
            let z = dr.placing.sits i v.0 l v.1 in
            let q = z.0.0 in
            let d = z.1.1 in
            let e = ends i l in
            let y = t.size in
            let a : at_of rows (place v.0) ≡ i = at_is mask n rows ends dr.placing i (place v.0) l k (ap place_of v.1) in
            let b : at_of others (place v.0) ≡ i = same_at (place v.0) (omega arith) (omega arith) ∙ a in
            let c = at_yes others (place v.0) (omega arith) in
            let f : place_of (row others i).seat ≡ place v.0 = subst (λ x. place_of (row others x).seat ≡ place v.0) b c.1 in
            v.1 ∙ sym (sits_on mask n others ends' od.placing i v.0 (omega arith) (sym (kept_like i l) ∙ k) q f))
      ]

  same_rows : rows ≡ others
  same_rows = ext_get_or blank rows others (sym t.size) (λ i l. row_same (row rows i) (row others i) (t.jobs i l) (same_seat i l))

pub one_plan : OnePlan
one_plan first o mask mask' agree rows others t dr od =
    let e : mask' ≡ mask = λ k s. sym (agree s) k in
    let n = ends_by rows in
    same_rows first o mask rows others t dr (subst (λ m. Drawn first m others) e od) n.0 n.1
