-- Places dealt in turn, read as links of slots: the rows with those seats are the plan. Assumes nothing.
use Rattle.std.proofs.Common.{◌≡◌, ℕ, zero, suc, ◌+◌, ◌*◌, ◌/◌, ◌<◌, ◌≤◌, Bool, true, List, [], ◌∷◌, length, get_or, is_some, Some, None, Option, sym, refl, ap, ◌∙◌, subst, inl, inr, arith, MatchOption}
use Rattle.std.proofs.lemmas.Bool.{cases_Bool, both_ways, cond-true, cond-false}
use Rattle.calendars.specs.Places.{opens}
use Rattle.calendars.proofs.Opens.{opens_few}
use Rattle.jobs.specs.declared.terms.Row.{Row}
use Rattle.jobs.specs.declared.terms.Seat.{Seat}
use Rattle.dealing.specs.Boards.{Table, Board}
use Rattle.dealing.specs.Choice.{adding, Greedy}
use Rattle.dealing.specs.Dealing.{DealtInOrder}
use Rattle.dealing.proofs.Choice.{part}
use Rattle.placing.specs.Index.{board_of, table_of, kept_of, order_of}
use Rattle.placing.specs.Orders.{earliest_then_lower}
use Rattle.placing.specs.Placing.{row, SameJob, SameTable}
use Rattle.placing.specs.Plan.{Drawn}
use Rattle.placing.proofs.Exists.{drawn_from}
use Rattle.placing.proofs.Index.{table_same, same_ends, rule}
use Rattle.placing.proofs.Orders.{earliest_then_lower_serves}
use Rattle.placing.proofs.Seats.{order_same}
use Rattle.drawing.specs.Slots.{board_by}
use Rattle.drawing.specs.Draw.{Drawable, seated}
use Rattle.drawing.specs.Seats.{SeatAt, SeatsRead, open_at, open_before, row_at}
use Rattle.drawing.specs.Trial.{order, seat_of, DealtToAll}
use Rattle.drawing.proofs.InTurn.{dealt_like}
use Rattle.drawing.proofs.Places.{place_into, place_rises, place_onto, place_slot, link_in}
use Rattle.drawing.proofs.Renumber.{greedy_up, dealt_up}

pub seated_length : (rows : List Row) (seats : List (Option Seat)) → length (seated rows seats) ≡ length rows
seated_length [] seats = refl
seated_length (r ∷ rs) [] = ap suc (seated_length rs [])
seated_length (r ∷ rs) (s ∷ seats) = ap suc (seated_length rs seats)

pub seated_job : (rows : List Row) (seats : List (Option Seat)) (i : ℕ) → i < length rows →
    SameJob (row rows i) (row (seated rows seats) i) × ((row (seated rows seats) i).seat ≡ get_or seats i None)
seated_job [] seats i h = absurd (omega arith)
seated_job (r ∷ rs) [] zero h = ((refl, refl, refl), refl)
seated_job (r ∷ rs) [] (suc i) h = seated_job rs [] i (omega arith)
seated_job (r ∷ rs) (s ∷ seats) zero h = ((refl, refl, refl), refl)
seated_job (r ∷ rs) (s ∷ seats) (suc i) h = seated_job rs seats i (omega arith)

-- the same jobs, before and after
pub seated_table : (rows : List Row) (seats : List (Option Seat)) → SameTable rows (seated rows seats)
seated_table rows seats = record { size = seated_length rows seats; jobs = λ i l. (seated_job rows seats i l).0 }

table_seated : (rows : List Row) (seats : List (Option Seat)) → SameTable (seated rows seats) rows
table_seated rows seats =
    let e = seated_length rows seats in
    record { size = sym e; jobs = λ i l. let j = (seated_job rows seats i (omega arith)).0 in (sym j.0, sym j.1, sym j.2) }

some_seat : {P : Seat → Type 0} (o : Option Seat) → MatchOption o ⊥ P → (p : Seat) × (o ≡ Some p) × P p
some_seat None h = absurd h
some_seat (Some p) h = (p, refl, h)

greedy_like : (b : Board) (t : Table) (kept new : ℕ → Bool) → ((i : ℕ) → i < t.size → kept i ≡ new i) → Greedy b t kept → Greedy b t new
greedy_like b t kept new same g = record {
  fits = λ i l k. part b t (adding kept i) (adding new i) (g.fits i l (same i l ∙ k)) (λ j jl e. alike i j jl ∙ e);
  refused = λ i l k s. g.refused i l (same i l ∙ k) (part b t (adding new i) (adding kept i) s (λ j jl e. sym (alike i j jl) ∙ e));
}
  where
    alike : (i j : ℕ) → j < t.size → adding kept i j ≡ adding new i j
    alike i j jl = rw (same j jl)

order_like : (b : Board) (t : Table) (first other : ℕ → ℕ → Bool) (K : ℕ → Bool) (k : ℕ) (at : ℕ → ℕ) →
    ((i j : ℕ) → i < t.size → j < t.size → first i j ≡ true → other i j ≡ true) → DealtInOrder b t first K k at → DealtInOrder b t other K k at
order_like b t first other K k at same s = record {
  sits = s.sits;
  once = s.once;
  foremost = λ p i l f h e r d un. let w = s.foremost p i l f h e r d un in (w.0, same (at p) i w.0 h w.1);
}

module _ (mask : ℕ → ℕ) (small : (s : ℕ) → mask s < 256) (counts : List ℕ) (long : length counts ≡ 1025) (h : (s : ℕ) → s ≤ 1024 → get_or counts s 0 ≡ opens mask s) where
  into : (w : ℕ) → w < 1024 * 8 → open_at mask w ≡ true → open_before mask w < get_or counts 1024 0
  into w l f = place_into mask small 1024 (get_or counts 1024 0) w (h 1024 (omega arith)) (omega arith) f

  onto : (p : ℕ) → p < get_or counts 1024 0 → (w : ℕ) × (w < 1024 * 8) × (open_at mask w ≡ true) × (open_before mask w ≡ p)
  onto p l = place_onto mask small 1024 (get_or counts 1024 0) p (h 1024 (omega arith)) l

  slots : (w : ℕ) → w < 1024 * 8 → open_at mask w ≡ true → (board_by counts).slot (open_before mask w) ≡ w / 8
  slots w l f = place_slot mask small counts long h w (omega arith) f

  few_places : (n whole : ℕ) → whole ≡ opens mask n → whole ≤ n * 8
  few_places n whole e = let o = opens_few mask small n in omega arith

  pub few : get_or counts 1024 0 ≤ 8192
  few = few_places 1024 (get_or counts 1024 0) (h 1024 (omega arith))

  greedy_links : (t : Table) (kept : ℕ → Bool) → Greedy (board_by counts) t kept → Greedy (board_of mask 1024) t kept
  greedy_links = greedy_up (board_of mask 1024) (board_by counts) (open_before mask) (λ p l. refl) into slots (λ v w l _ f. place_rises mask small v w l f) onto

  dealt_links : (rows : List Row) (K : ℕ → Bool) (places : List (Option ℕ)) → DealtInOrder (board_by counts) (table_of rows) (order rows) K (get_or counts 1024 0) (seat_of places) →
      DealtInOrder (board_of mask 1024) (table_of rows) (order rows) K (1024 * 8) (row_at mask (length rows) places)
  dealt_links rows K places s =
      dealt_up (board_of mask 1024) (board_by counts) (open_before mask) (λ p l. refl) into slots (λ v w l _ f. place_rises mask small v w l f) onto
      (table_of rows) (order rows) K (seat_of places) s (row_at mask (length rows) places)
      (λ w f. cond-true (open_at mask w) (seat_of places (open_before mask w)) (length rows) f)
      (λ w f. cond-false (open_at mask w) (seat_of places (open_before mask w)) (length rows) f)

  row_at_lem : (places : List (Option ℕ)) (n p : ℕ) (seat : Seat) → SeatAt mask p seat → row_at mask n places (seat.slot * 8 + seat.link) ≡ seat_of places p
  row_at_lem places n p seat a =
      let w = seat.slot * 8 + seat.link in
      let z = link_in mask small seat.slot seat.link p a.opened.0 a.opened.1 (sym a.place) in
      cond-true (open_at mask w) (seat_of places (open_before mask w)) n z.0 ∙ ap (seat_of places) z.1

  module _ (rows : List Row) (places : List (Option ℕ)) (seats : List (Option Seat)) (drawable : Drawable rows) (same : length seats ≡ length rows)
      (kept : ℕ → Bool) (greedy : Greedy (board_by counts) (table_of rows) kept) (all : DealtToAll rows counts kept places)
      (read : SeatsRead mask places seats (get_or counts 1024 0)) where
    -- a kept row has the seat of its place
    its_seat : (i : ℕ) → i < length rows → kept i ≡ true → (q : ℕ) × (p : Seat) × (seat_of places q ≡ i) × (get_or seats i None ≡ Some p) × SeatAt mask q p
    its_seat i l k =
        let w = all.seats i l k in
        let e = w.2 in
        let s = some_seat (get_or seats i None) (subst (λ y. MatchOption (get_or seats y None) ⊥ (SeatAt mask w.0)) e (read.made w.0 w.1 (omega arith))) in
        (w.0, s.0, e, s.1, s.2)

    kept_is : (i : ℕ) → i < length rows → kept i ≡ kept_of (seated rows seats) i
    kept_is i l =
        let here : kept_of (seated rows seats) i ≡ is_some (get_or seats i None) = ap is_some (seated_job rows seats i l).1 in
        elim (cases_Bool (kept i)) [
          | inl k ↦ (let w = its_seat i l k in k ∙ sym (here ∙ ap is_some w.3))
          | inr k ↦
              (let n = read.others i (λ w.
              let e = w.2 in
              both_ways (kept i) k (subst (λ y. kept y ≡ true) e (all.dealt.sits w.0 w.1 (subst (λ y. y < length rows) (sym e) l)).0)) in
              k ∙ sym (here ∙ ap is_some n))
        ]

    sits_there : (i : ℕ) (p : Seat) → i < length (seated rows seats) → (row (seated rows seats) i).seat ≡ Some p →
        (p.link < 8) × (p.slot < 1024) × (row_at mask (length rows) places (p.slot * 8 + p.link) ≡ i)
    sits_there i p l e =
        let size = seated_length rows seats in
        let m : i < length rows = omega arith in
        let w = its_seat i m (kept_is i m ∙ ap is_some e) in
        let z : Some w.1 ≡ Some p = sym w.3 ∙ (sym (seated_job rows seats i m).1 ∙ e) in
        let one : w.1 ≡ p = cc in
        let a = subst (SeatAt mask w.0) one w.4 in
        (a.opened.0, a.slot, row_at_lem places (length rows) w.0 p a ∙ w.2)

    pub drawn : Drawn earliest_then_lower mask (seated rows seats)
    drawn =
        let out = seated rows seats in
        let t = seated_table rows seats in
        let ends = same_ends mask 1024 rows out drawable.deadlines t in
        let tables = sym (table_same rows out t) in
        let g = greedy_like (board_of mask 1024) (table_of rows) kept (kept_of out) kept_is (greedy_links (table_of rows) kept greedy) in
        let d = order_like (board_of mask 1024) (table_of rows) (order rows) (order_of earliest_then_lower out) (kept_of out) (1024 * 8) (row_at mask (length rows) places)
        (λ i j l m f. order_same earliest_then_lower earliest_then_lower_serves out rows (table_seated rows seats) i j (subst (λ n. i < n) (sym t.size) l) (subst (λ n. j < n) (sym t.size) m) f)
        (dealt_like (board_of mask 1024) (table_of rows) (order rows) kept (kept_of out) (1024 * 8) (row_at mask (length rows) places) kept_is (dealt_links rows kept places all.dealt)) in
        drawn_from earliest_then_lower earliest_then_lower_serves mask 1024 out ends
        (rule mask 1024 out ends (subst (λ u. Greedy (board_of mask 1024) u (kept_of out)) tables g))
        (row_at mask (length rows) places)
        (subst (λ u. DealtInOrder (board_of mask 1024) u (order_of earliest_then_lower out) (kept_of out) (1024 * 8) (row_at mask (length rows) places)) tables d)
        sits_there
