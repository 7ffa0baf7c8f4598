-- Placings of rows as placings over indices, and back: eight places to a slot, row by row. Assumes nothing.
--   Ends n rows        each window ends by slot n
--   place p, seat_at x  the place of a seat, counted slot by slot, and back
--   reseat f rows      the same jobs with other seats
--   indexed            a placing of rows as one over indices
--   reseated           the rows with the seats of a placing over indices, which are a rival
use Rattle.std.proofs.Common.{◌≡◌, ℕ, zero, suc, ◌+◌, ◌*◌, ◌/◌, ◌%◌, ◌^◌, ◌<◌, ◌≤◌, max, Bool, true, false, cond, eqb, List, [], ◌∷◌, length, is_some, Some, None, Option, sym, refl, ap, ◌∙◌, subst, inl, inr, arith}
use Rattle.std.proofs.lemmas.List.{get_or_past}
use Rattle.std.proofs.lemmas.Bool.{cases_lt, cases_eq, both_ways, eqb-true, eq-eqb}
use Rattle.jobs.specs.declared.terms.Row.{Row}
use Rattle.jobs.specs.declared.terms.Seat.{Seat}
use Rattle.dealing.specs.Boards as indices
use Rattle.dealing.specs.Boards.{Sits}
use Rattle.dealing.specs.Choice.{adding, Greedy}
use Rattle.dealing.proofs.Choice.{adding_from, adding_parts, below_parts, part}
use Rattle.placing.specs.Placing.{blank, row, Open, InWindow, Kept, Placing, SameJob, SameTable, Rival}
use Rattle.placing.specs.Plan.{Together, KeptRule}
use Rattle.placing.specs.Index.{board_of, table_of, kept_of}

-- each window ends by the slot n
abbrev pub Ends : ℕ → List Row → Type 0
Ends n rows = (i : ℕ) → i < length rows → (row rows i).deadline ≤ n

abbrev pub place : Seat → ℕ
place p = p.slot * 8 + p.link

abbrev pub seat_at : ℕ → Seat
seat_at x = record { slot = x / 8; link = x % 8 }

abbrev pub place_of : Option Seat → ℕ
place_of (Some p) = place p
place_of None = 0

pub some_of : (o : Option Seat) → is_some o ≡ true → (p : Seat) × (o ≡ Some p)
some_of (Some p) h = (p, refl)
some_of None h = absurd (both_ways false refl h)

pub seat_same : (p q : Seat) → p.slot ≡ q.slot → p.link ≡ q.link → p ≡ q
seat_same p q s l = λ i. record { slot = s i; link = l i }

pub place_once : (p q : Seat) → p.link < 8 → q.link < 8 → place p ≡ place q → p ≡ q
place_once p q l m e = seat_same p q (omega arith) (omega arith)

pub place_seat : (x : ℕ) → place (seat_at x) ≡ x
place_seat x = omega arith

pub seat_place : (p : Seat) → p.link < 8 → seat_at (place p) ≡ p
seat_place p l = seat_same (seat_at (place p)) p (omega arith) (omega arith)

pub open_free : (mask : ℕ → ℕ) (n : ℕ) (p : Seat) → Open mask p → (board_of mask n).free (place p) ≡ true
open_free mask n p o =
    let s : place p / 8 ≡ p.slot = (let l = o.0 in omega arith) in
    let l : place p % 8 ≡ p.link = (let l = o.0 in omega arith) in
    subst (λ x. eqb (mask x / 2 ^ (place p % 8) % 2) 1 ≡ true) (sym s)
    (subst (λ x. eqb (mask p.slot / 2 ^ x % 2) 1 ≡ true) (sym l) (eq-eqb (mask p.slot / 2 ^ p.link % 2) 1 o.1))

pub free_open : (mask : ℕ → ℕ) (n x : ℕ) → (board_of mask n).free x ≡ true → Open mask (seat_at x)
free_open mask n x f = (omega arith, eqb-true (mask (x / 8) / 2 ^ (x % 8) % 2) 1 f)

-- the same rows with other seats
abbrev pub reseat : (ℕ → Option Seat) → List Row → List Row
reseat f [] = []
reseat f (r ∷ rs) = record { number = r.number; ready = r.ready; deadline = r.deadline; seat = f 0 } ∷ reseat (λ i. f (suc i)) rs

pub reseat_length : (f : ℕ → Option Seat) (rows : List Row) → length (reseat f rows) ≡ length rows
reseat_length f [] = refl
reseat_length f (r ∷ rs) = ap suc (reseat_length (λ i. f (suc i)) rs)

pub reseat_job : (f : ℕ → Option Seat) (rows : List Row) (i : ℕ) → i < length rows → SameJob (row rows i) (row (reseat f rows) i) × ((row (reseat f rows) i).seat ≡ f i)
reseat_job f [] i h = absurd (omega arith)
reseat_job f (r ∷ rs) zero h = ((refl, refl, refl), refl)
reseat_job f (r ∷ rs) (suc i) h = reseat_job (λ i. f (suc i)) rs i (omega arith)

-- the same jobs have the same windows
pub table_same : (rows others : List Row) → SameTable rows others → table_of others ≡ table_of rows
table_same rows others t = λ k. record { size = t.size k; ready = λ i. (same i).0 k; deadline = λ i. (same i).1 k }
  where
    same : (i : ℕ) → ((row others i).ready ≡ (row rows i).ready) × ((row others i).deadline ≡ (row rows i).deadline)
    same i =
        elim (cases_lt i (length rows)) [
          | inl l ↦ (let j = t.jobs i l in (sym j.1, sym j.2))
          | inr l ↦
              (let z = t.size in
              let a : row others i ≡ blank = get_or_past others i blank (omega arith) in
              let b : row rows i ≡ blank = get_or_past rows i blank l in
              (ap (λ r. r.ready) (a ∙ sym b), ap (λ r. r.deadline) (a ∙ sym b)))
        ]

module _ (mask : ℕ → ℕ) (n : ℕ) where
  -- a placing of rows as one over indices
  pub indexed : (rows : List Row) → Ends n rows → Placing mask rows → indices.Placing (board_of mask n) (table_of rows) (kept_of rows)
  indexed rows ends s = record {
    seat = λ i. place_of (row rows i).seat;
    sits = λ i l k.
        let w = some_of (row rows i).seat k in
        let z = s.sits i w.0 l w.1 in
        let e = ends i l in
        let a = z.0 in
        let b = z.1 in
        subst (λ o. Sits (board_of mask n) (table_of rows) i (place_of o)) (sym w.1)
        (omega arith, open_free mask n w.0 z.0, omega arith, omega arith);
    apart = λ i j l m k h z.
        let v = some_of (row rows i).seat k in
        let w = some_of (row rows j).seat h in
        let x = (s.sits i v.0 l v.1).0.0 in
        let y = (s.sits j w.0 m w.1).0.0 in
        let e : place v.0 ≡ place w.0 = sym (ap place_of v.1) ∙ (z ∙ ap place_of w.1) in
        s.alone i j v.0 l m v.1 (w.1 ∙ ap Some (sym (place_once v.0 w.0 x y e)));
  }

  pub indexed_seat : (rows : List Row) (ends : Ends n rows) (s : Placing mask rows) (i : ℕ) → (indexed rows ends s).seat i ≡ place_of (row rows i).seat
  unfolding indexed
  indexed_seat rows ends s i = refl

  -- the rows with the seats of a placing of K
  abbrev pub seating : (rows : List Row) (K : ℕ → Bool) → indices.Placing (board_of mask n) (table_of rows) K → ℕ → Option Seat
  seating rows K s i = cond (K i) (Some (seat_at (s.seat i))) None

  pub seating_kept : (rows : List Row) (K : ℕ → Bool) (s : indices.Placing (board_of mask n) (table_of rows) K) (i : ℕ) → is_some (seating rows K s i) ≡ K i
  seating_kept rows K s i = go (K i)
    where
      go : (v : Bool) → is_some (cond v (Some (seat_at (s.seat i))) None) ≡ v
      go true = refl
      go false = refl

  pub seating_at : (rows : List Row) (K : ℕ → Bool) (s : indices.Placing (board_of mask n) (table_of rows) K) (i : ℕ) (p : Seat) → seating rows K s i ≡ Some p → (K i ≡ true) × (p ≡ seat_at (s.seat i))
  seating_at rows K s i p = go (K i)
    where
      go : (v : Bool) → cond v (Some (seat_at (s.seat i))) None ≡ Some p → (v ≡ true) × (p ≡ seat_at (s.seat i))
      go true e = (refl, cc)
      go false e = absurd (let z : ◌≡◌ {A = ℕ} 0 1 = cc in omega arith)

  -- a placing over indices as a rival
  module _ (rows : List Row) (K : ℕ → Bool) (s : indices.Placing (board_of mask n) (table_of rows) K) where
    abbrev pub reseated : List Row
    reseated = reseat (seating rows K s) rows

    pub reseated_kept : (i : ℕ) → i < length rows → K i ≡ true → Kept reseated i
    reseated_kept i l k = ap is_some (reseat_job (seating rows K s) rows i l).1 ∙ (seating_kept rows K s i ∙ k)

    pub at_seat : (i : ℕ) (p : Seat) → i < length reseated → (row reseated i).seat ≡ Some p → (i < length rows) × (K i ≡ true) × (p ≡ seat_at (s.seat i))
    at_seat i p l e =
        let z = reseat_length (seating rows K s) rows in
        let m : i < length rows = omega arith in
        let w = seating_at rows K s i p (sym (reseat_job (seating rows K s) rows i m).1 ∙ e) in
        (m, w.0, w.1)

    reseated_sits : (i : ℕ) (p : Seat) → i < length reseated → (row reseated i).seat ≡ Some p → Open mask p × InWindow (row reseated i).ready (row reseated i).deadline p.slot
    reseated_sits i p l e =
        let w = at_seat i p l e in
        let z = s.sits i w.0 w.1 in
        let j = (reseat_job (seating rows K s) rows i w.0).0 in
        subst (λ q. Open mask q × InWindow (row reseated i).ready (row reseated i).deadline q.slot) (sym w.2)
        (free_open mask n (s.seat i) z.1, (let a = z.2 in let b = j.1 in omega arith, let a = z.3 in let b = j.2 in omega arith))

    reseated_alone : (i j : ℕ) (p : Seat) → i < length reseated → j < length reseated → (row reseated i).seat ≡ Some p → (row reseated j).seat ≡ Some p → i ≡ j
    reseated_alone i j p l m e f =
        let v = at_seat i p l e in
        let w = at_seat j p m f in
        let z : seat_at (s.seat i) ≡ seat_at (s.seat j) = sym v.2 ∙ w.2 in
        s.apart i j v.0 w.0 v.1 w.1 (sym (place_seat (s.seat i)) ∙ (ap place z ∙ place_seat (s.seat j)))

    pub reseated_rival : Rival mask rows reseated
    reseated_rival = record {
      table = record { size = reseat_length (seating rows K s) rows; jobs = λ i l. (reseat_job (seating rows K s) rows i l).0 };
      placing = record { sits = reseated_sits; alone = reseated_alone };
    }

  pub same_ends : (rows others : List Row) → Ends n rows → SameTable rows others → Ends n others
  same_ends rows others ends t i l = let z = t.size in let j = (t.jobs i (omega arith)).2 in let e = ends i (omega arith) in omega arith

  -- what a rival keeps has a placing
  pub rival : (rows others : List Row) → Ends n rows → Rival mask rows others → indices.Placing (board_of mask n) (table_of rows) (kept_of others)
  rival rows others ends r =
      subst (λ t. indices.Placing (board_of mask n) t (kept_of others)) (table_same rows others r.table)
      (indexed others (same_ends rows others ends r.table) r.placing)

  -- a row, and all kept before it, together: over indices and back
  pub together_to : (rows : List Row) → Ends n rows → (i : ℕ) → i < length rows → Together mask rows i → indices.Placing (board_of mask n) (table_of rows) (adding (kept_of rows) i)
  together_to rows ends i l (others, r, before, here) =
      part (board_of mask n) (table_of rows) (kept_of others) (adding (kept_of rows) i) (rival rows others ends r)
      (λ j jl a. elim (cases_eq j i) [
        | inl z ↦ subst (λ x. kept_of others x ≡ true) (sym z) here
        | inr z ↦ (let k = below_parts (kept_of rows) i j (adding_parts (kept_of rows) i j a z) in before j k.0 k.1)
      ])

  pub together_from : (rows : List Row) (i : ℕ) → i < length rows → indices.Placing (board_of mask n) (table_of rows) (adding (kept_of rows) i) → Together mask rows i
  together_from rows i l s = (
    reseated rows (adding (kept_of rows) i) s,
    reseated_rival rows (adding (kept_of rows) i) s,
    (λ j jl k. reseated_kept rows (adding (kept_of rows) i) s j (omega arith) (adding_from (kept_of rows) i j (inl (jl, k)))),
    reseated_kept rows (adding (kept_of rows) i) s i l (adding_from (kept_of rows) i i (inr refl)),
  )

  -- the kept rule is the greedy choice
  pub greedy : (rows : List Row) → Ends n rows → KeptRule mask rows → Greedy (board_of mask n) (table_of rows) (kept_of rows)
  greedy rows ends rule = record {
    fits = λ i l k. together_to rows ends i l (rule.kept i l k);
    refused = λ i l k s. rule.dropped i l k (together_from rows i l s);
  }

  pub rule : (rows : List Row) → Ends n rows → Greedy (board_of mask n) (table_of rows) (kept_of rows) → KeptRule mask rows
  rule rows ends g = record {
    kept = λ i l k. together_from rows i l (g.fits i l k);
    dropped = λ i l k t. g.refused i l k (together_to rows ends i l t);
  }

-- a slot by which each window ends
ends_more : (r : Row) (rs : List Row) (n : ℕ) → Ends n rs → Ends (max r.deadline n) (r ∷ rs)
ends_more r rs n e zero l = omega arith
ends_more r rs n e (suc i) l = let z = e i (omega arith) in omega arith

pub ends_by : (rows : List Row) → (n : ℕ) × Ends n rows
ends_by [] = (0, λ i l. absurd (omega arith))
ends_by (r ∷ rs) = let w = ends_by rs in (max r.deadline w.0, ends_more r rs w.0 w.1)

pub ends_more_slots : (n m : ℕ) (rows : List Row) → Ends n rows → n ≤ m → Ends m rows
ends_more_slots n m rows e h i l = let z = e i l in omega arith
