-- There is a plan: the greedy choice, with the places dealt to it in order. Assumes nothing.
use Rattle.std.proofs.Common.{◌≡◌, ℕ, ◌+◌, ◌*◌, ◌/◌, ◌<◌, ◌≤◌, Bool, true, false, cond, eqb, List, length, is_some, Some, None, Option, sym, refl, ap, ◌∙◌, subst, inl, inr, arith}
use Rattle.std.proofs.lemmas.List.{ext_get_or}
use Rattle.std.proofs.lemmas.Bool.{cases_eq, eqb-true, eq-eqb}
use Rattle.jobs.specs.declared.terms.Row.{Row}
use Rattle.jobs.specs.declared.terms.Seat.{Seat}
use Rattle.dealing.specs.Boards as indices
use Rattle.dealing.specs.Boards.{Board, Table}
use Rattle.dealing.specs.Choice.{adding, Greedy}
use Rattle.dealing.specs.Dealing.{Ordered, DealtInOrder}
use Rattle.dealing.proofs.Choice.{adding_from, adding_parts, below_parts, part, kept_are_placed}
use Rattle.dealing.proofs.Counting.{find, find_passes}
use Rattle.dealing.proofs.Dealing.{dealing_exists, order_keeps_deadlines}
use Rattle.dealing.proofs.Keeping.{choice_exists}
use Rattle.dealing.proofs.Seating.{placeable_are_seated}
use Rattle.placing.specs.Placing.{blank, row, Rival, Apart}
use Rattle.placing.specs.Plan.{KeptRule, Earlier, Dealt, Drawn}
use Rattle.placing.specs.Orders.{ServiceOrder}
use Rattle.placing.specs.Index.{board_of, table_of, kept_of, order_of}
use Rattle.placing.specs.Theorems.{PlanExists, DrawnFrom}
use Rattle.placing.proofs.Index.{Ends, place, seat_at, place_seat, seat_place, open_free, reseat_length, reseat_job, seating, seating_kept, reseated, reseated_rival, at_seat, rule, same_ends, ends_by, table_same, greedy, some_of}
use Rattle.placing.proofs.Seats.{none_of, row_same}

adding_like : (K L : ℕ → Bool) (m : ℕ) → ((i : ℕ) → i < m → K i ≡ L i) → (i : ℕ) → i ≤ m → (j : ℕ) → adding L i j ≡ true → adding K i j ≡ true
adding_like K L m h i l j a =
    elim (cases_eq j i) [
      | inl z ↦ adding_from K i j (inr z)
      | inr z ↦ (let w = below_parts L i j (adding_parts L i j a z) in let b = w.0 in adding_from K i j (inl (w.0, h j (omega arith) ∙ w.1)))
    ]

-- being a greedy choice depends on the flags alone
greedy_like : (b : Board) (t : Table) (K L : ℕ → Bool) → ((i : ℕ) → i < t.size → K i ≡ L i) → Greedy b t K → Greedy b t L
greedy_like b t K L h g = record {
  fits = λ i l k. part b t (adding K i) (adding L i) (g.fits i l (h i l ∙ k)) (λ j jl a. adding_like K L t.size h i (omega arith) j a);
  refused = λ i l k s. g.refused i l (h i l ∙ k) (part b t (adding L i) (adding K i) s (λ j jl a. adding_like L K t.size (λ x xl. sym (h x xl)) i (omega arith) j a));
}

-- the rows by a greedy choice K and a way to deal the places to it
module _ (first : Row → Row → Bool) (o : ServiceOrder first) (mask : ℕ → ℕ) (n : ℕ) (rows : List Row) (ends : Ends n rows) (K : ℕ → Bool) (g : Greedy (board_of mask n) (table_of rows) K)
    (at : ℕ → ℕ) (st : DealtInOrder (board_of mask n) (table_of rows) (order_of first rows) K (n * 8) at) where
  seat_for : ℕ → ℕ
  seat_for i = find (λ q. eqb (at q) i) (n * 8) 0

  seat_for_lem : (i : ℕ) → i < length rows → K i ≡ true → (seat_for i < n * 8) × (at (seat_for i) ≡ i)
  unfolding seat_for
  seat_for_lem i l k =
      let d = order_keeps_deadlines (board_of mask n) (table_of rows) (order_of first rows) (λ j m _ _ h. o.deadlines (row rows j) (row rows m) h) K (n * 8) at st in
      let w = placeable_are_seated (board_of mask n) (table_of rows) K at d (kept_are_placed (board_of mask n) (table_of rows) K g) i l k in
      let f = find_passes (λ q. eqb (at q) i) (n * 8) 0 w.0 w.1 (eq-eqb (at w.0) i w.2) in
      (f.0, eqb-true (at (seat_for i)) i f.1)

  -- whoever has place q dealt to him sits there
  seat_of_lem : (q i : ℕ) → q < n * 8 → i < length rows → K i ≡ true → at q ≡ i → seat_for i ≡ q
  seat_of_lem q i l h k e = let w = seat_for_lem i h k in st.once (seat_for i) q w.0 l (subst (λ x. x < length rows) (sym w.1) h) (w.1 ∙ sym e)

  abbrev mine : indices.Placing (board_of mask n) (table_of rows) K
  mine = record {
    seat = seat_for;
    sits = λ i l k.
        let w = seat_for_lem i l k in
        let z = st.sits (seat_for i) w.0 (subst (λ x. x < length rows) (sym w.1) l) in
        let r : (row rows (at (seat_for i))).ready ≡ (row rows i).ready = ap (λ x. (row rows x).ready) w.1 in
        let d : (row rows (at (seat_for i))).deadline ≡ (row rows i).deadline = ap (λ x. (row rows x).deadline) w.1 in
        let a = z.2 in
        let b = z.3 in
        (w.0, z.1, omega arith, omega arith);
    apart = λ i j l m k h e. sym (seat_for_lem i l k).1 ∙ (ap at e ∙ (seat_for_lem j m h).1);
  }

  abbrev plan : List Row
  plan = reseated mask n rows K mine

  fair : Rival mask rows plan
  fair = reseated_rival mask n rows K mine

  same_table : table_of plan ≡ table_of rows
  same_table = table_same rows plan fair.table

  flags : (i : ℕ) → i < length rows → K i ≡ kept_of plan i
  flags i l = sym (ap is_some (reseat_job (seating mask n rows K mine) rows i l).1 ∙ seating_kept mask n rows K mine i)

  planned : Greedy (board_of mask n) (table_of plan) (kept_of plan)
  planned = subst (λ t. Greedy (board_of mask n) t (kept_of plan)) (sym same_table) (greedy_like (board_of mask n) (table_of rows) K (kept_of plan) flags g)

  before_place : (p q : Seat) → p.link < 8 → Earlier p q → (place p < place q) × (p.slot ≤ q.slot)
  before_place p q l (inl h) = (omega arith, omega arith)
  before_place p q l (inr h) = let a = h.0 in let b = h.1 in (omega arith, omega arith)

  dealt : Dealt first mask plan
  dealt p q i op l e r before =
      let z = fair.table.size in
      let v = at_seat mask n rows K mine i q l e in
      let w = seat_for_lem i v.0 v.1 in
      let pq : place q ≡ seat_for i = ap place v.2 ∙ place_seat (seat_for i) in
      let b = before_place p q op.0 before in
      let b0 = b.0 in
      let b1 = b.1 in
      let ol = op.0 in
      let ps : place p / 8 ≡ p.slot = omega arith in
      let ji = fair.table.jobs i v.0 in
      let jr = ji.1 in
      let jd = ji.2 in
      let u = (fair.placing.sits i q l e).1.1 in
      let w0 = w.0 in
      let f = st.foremost (place p) i (omega arith) (open_free mask n p op) v.0 v.1 (omega arith) (omega arith)
      (λ x xl xe. let y = seat_of_lem x i (omega arith) v.0 v.1 xe in omega arith) in
      let s = st.sits (place p) (omega arith) f.0 in
      let k = seat_of_lem (place p) (at (place p)) (omega arith) f.0 s.0 refl in
      let j = reseat_job (seating mask n rows K mine) rows (at (place p)) f.0 in
      let f0 = f.0 in (
        at (place p),
        omega arith,
        j.1 ∙ (ap (λ c. cond c (Some (seat_at (seat_for (at (place p))))) None) s.0 ∙ ap Some (ap seat_at k ∙ seat_place p op.0)),
        o.jobs (row rows (at (place p))) (row rows i) (row plan (at (place p))) (row plan i) (fair.table.jobs (at (place p)) f.0) ji f.1,
      )

  drawn : Drawn first mask plan
  drawn = record { kept = rule mask n plan (same_ends mask n rows plan ends fair.table) planned; placing = fair.placing; dealt = dealt }

-- rows with numbers of their own are compared, any two
ordered : (first : Row → Row → Bool) → ServiceOrder first → (rows : List Row) → Apart rows → Ordered (table_of rows) (order_of first rows)
ordered first o rows apart = record {
  trans = λ i j k _ _ _ h g. o.trans (row rows i) (row rows j) (row rows k) h g;
  either = λ i j l m ne. o.either (row rows i) (row rows j) (λ e. ne (apart i j l m e));
}

pub plan_exists : PlanExists
plan_exists first o mask rows apart =
    let e = ends_by rows in
    let c = choice_exists (board_of mask e.0) (table_of rows) in
    let f = dealing_exists (board_of mask e.0) (table_of rows) (order_of first rows) (ordered first o rows apart) c.0 (e.0 * 8) in (
      plan first o mask e.0 rows e.1 c.0 c.1 f.0 f.1,
      (fair first o mask e.0 rows e.1 c.0 c.1 f.0 f.1).table,
      drawn first o mask e.0 rows e.1 c.0 c.1 f.0 f.1,
    )

-- rows that sit where dealing has them are the plan
module _ (first : Row → Row → Bool) (o : ServiceOrder first) (mask : ℕ → ℕ) (n : ℕ) (rows : List Row) (ends : Ends n rows) (kept : KeptRule mask rows)
    (at : ℕ → ℕ) (st : DealtInOrder (board_of mask n) (table_of rows) (order_of first rows) (kept_of rows) (n * 8) at)
    (sit : (i : ℕ) (p : Seat) → i < length rows → (row rows i).seat ≡ Some p → (p.link < 8) × (p.slot < n) × (at (p.slot * 8 + p.link) ≡ i)) where
  g : Greedy (board_of mask n) (table_of rows) (kept_of rows)
  g = greedy mask n rows ends kept

  abbrev again : List Row
  again = plan first o mask n rows ends (kept_of rows) g at st

  abbrev its_place : ℕ → ℕ
  its_place i = seat_for first o mask n rows ends (kept_of rows) g at st i

  abbrev seats : ℕ → Option Seat
  seats = seating mask n rows (kept_of rows) (mine first o mask n rows ends (kept_of rows) g at st)

  its : (i : ℕ) → i < length rows → (v : Bool) → kept_of rows i ≡ v → cond v (Some (seat_at (its_place i))) None ≡ (row rows i).seat
  its i l false k = sym (none_of (row rows i).seat k)
  its i l true k =
      let w = some_of (row rows i).seat k in
      let z = sit i w.0 l w.1 in
      let z0 = z.0 in
      let z1 = z.1 in
      let e : its_place i ≡ place w.0 = seat_of_lem first o mask n rows ends (kept_of rows) g at st (place w.0) i (omega arith) l k z.2 in
      ap (λ x. Some (seat_at x)) e ∙ (ap Some (seat_place w.0 z.0) ∙ sym w.1)

  same : (i : ℕ) → i < length again → row again i ≡ row rows i
  same i h =
      let z = reseat_length seats rows in
      let l : i < length rows = omega arith in
      let j = reseat_job seats rows i l in
      row_same (row again i) (row rows i) (sym j.0.0, sym j.0.1, sym j.0.2) (j.1 ∙ its i l (kept_of rows i) refl)

  drawn_so : Drawn first mask rows
  drawn_so = subst (Drawn first mask) (ext_get_or blank again rows (reseat_length seats rows) same) (drawn first o mask n rows ends (kept_of rows) g at st)

pub drawn_from : DrawnFrom
drawn_from first o mask n rows ends kept at st sit = drawn_so first o mask n rows ends kept at st sit
