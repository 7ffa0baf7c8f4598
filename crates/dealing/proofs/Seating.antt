-- A set has a placing exactly where dealing seats all of it. Assumes nothing.
use Rattle.std.proofs.Common.{◌≡◌, ℕ, ◌<◌, Bool, true, false, not, ◌&&◌, eqb, sym, ap, ◌∙◌, subst, inl, inr, arith}
use Rattle.std.proofs.lemmas.Bool.{cases_Bool}
use Rattle.std.proofs.lemmas.Bool.Decides.{nat_tests}
use Rattle.dealing.specs.Boards.{Table, Board, Placing, PlacedOrOverloaded}
use Rattle.dealing.specs.Dealing.{DealtByDeadline, SeatedArePlaced, PlaceableAreSeated}
use Rattle.dealing.proofs.Boards.{load_fits_room}
use Rattle.dealing.proofs.Counting.{any_below, find, find_passes}
use Rattle.dealing.proofs.Dealing.{seated, seated_no, seated_yes, dealt_by_deadline}
use Rattle.dealing.proofs.Late.{late_job_overloads}

-- where each job of K has a seat, the seats are a placing
module _ (b : Board) (t : Table) (K : ℕ → Bool) (at : ℕ → ℕ) (law : DealtByDeadline b t K b.places at)
    (all : (i : ℕ) → i < t.size → K i ≡ true → (q : ℕ) × (q < b.places) × (at q ≡ i)) where
  abbrev its_seat : ℕ → ℕ
  its_seat i = find (λ q. eqb (at q) i) b.places 0

  seat_is : (i : ℕ) → i < t.size → K i ≡ true → (its_seat i < b.places) × (at (its_seat i) ≡ i)
  seat_is i l k =
      let w = all i l k in
      let f = find_passes (λ q. eqb (at q) i) b.places 0 w.0 w.1 (let e = w.2 in grind (arith, nat_tests)) in
      (f.0, let e = f.1 in grind (arith, nat_tests))

  placed_by : Placing b t K
  placed_by = record {
    seat = its_seat;
    sits = λ i l k.
        let s = seat_is i l k in
        let g = law.sits (its_seat i) s.0 (subst (λ x. x < t.size) (sym s.1) l) in
        let e : t.ready (at (its_seat i)) ≡ t.ready i = ap t.ready s.1 in
        let f : t.deadline (at (its_seat i)) ≡ t.deadline i = ap t.deadline s.1 in
        (s.0, g.1, omega arith, omega arith);
    apart = λ i j l m k n z. sym (seat_is i l k).1 ∙ (ap at z ∙ (seat_is j m n).1);
  }

-- the test of a job of K without a seat
abbrev lacks : (ℕ → Bool) → (ℕ → ℕ) → ℕ → ℕ → Bool
lacks K at k i = K i && not (seated at k i)

lacks_parts : (K : ℕ → Bool) (at : ℕ → ℕ) (k i : ℕ) → lacks K at k i ≡ true → (K i ≡ true) × (seated at k i ≡ false)
lacks_parts K at k i h = (grind (arith, nat_tests), grind (arith, nat_tests))

lacks_not : (K : ℕ → Bool) (at : ℕ → ℕ) (k i : ℕ) → lacks K at k i ≡ false → K i ≡ true → seated at k i ≡ true
lacks_not K at k i h e = grind (arith, nat_tests)

pub placed_or_overloaded : PlacedOrOverloaded
placed_or_overloaded b t K =
    let f = dealt_by_deadline b t K b.places in
    elim (any_below (lacks K f.0 b.places) t.size) [
      | inl w ↦
          (let z = lacks_parts K f.0 b.places w.0 w.2 in
          let l = late_job_overloads b t K f.0 f.1 w.0 w.1 z.0 (seated_no f.0 b.places w.0 z.1) in
          inr (l.0, t.deadline w.0, l.3))
      | inr w ↦ inl (placed_by b t K f.0 f.1 (λ i l k. seated_yes f.0 b.places i (lacks_not K f.0 b.places i (w i l) k)))
    ]

pub seated_are_placed : SeatedArePlaced
seated_are_placed b t K at law all = placed_by b t K at law all

pub placeable_are_seated : PlaceableAreSeated
placeable_are_seated b t K at law s i l k =
    elim (cases_Bool (seated at b.places i)) [
      | inl e ↦ seated_yes at b.places i e
      | inr e ↦
          (let w = late_job_overloads b t K at law i l k (seated_no at b.places i e) in
          let z = load_fits_room b t K s w.0 (t.deadline i) in
          absurd (omega arith))
    ]
