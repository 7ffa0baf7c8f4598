-- The seats read off the places, step by step. Assumes nothing.
use Rattle.std.proofs.Common.{◌≡◌, ℕ, ◌+◌, ◌-◌, ◌<◌, ◌≤◌, List, length, get_or, set, Some, None, Option, sym, ap, ◌∙◌, subst, inl, inr, arith, MatchOption}
use Rattle.std.proofs.lemmas.List.{get_or-set_same, get_or-set_other, length-set, get_or_past}
use Rattle.std.proofs.lemmas.Bool.{cases_eq, cases_lt}
use Rattle.calendars.specs.Places.{opens, KthOpen}
use Rattle.jobs.specs.declared.terms.Seat.{Seat}
use Rattle.drawing.specs.Walk.{In}
use Rattle.drawing.specs.Trial.{seat_of}
use Rattle.drawing.specs.Seats.{SeatAt, Once, SeatsRead}

pub seating_none : (mask : ℕ → ℕ) (at : List (Option ℕ)) (out : List (Option Seat)) (p : ℕ) → p ≡ 0 → ((i : ℕ) → i < length out → get_or out i None ≡ None) → SeatsRead mask at out p
seating_none mask at out p z h = record {
  made = λ q l. absurd (omega arith);
  others = λ i _. elim (cases_lt i (length out)) [ inl l ↦ h i l | inr l ↦ get_or_past out i None l ];
}

module _ (mask : ℕ → ℕ) (at : List (Option ℕ)) (out : List (Option Seat)) (p : ℕ) (s : SeatsRead mask at out p) where
  fewer : (i : ℕ) → (In (seat_of at) (p + 1) i → ⊥) → In (seat_of at) p i → ⊥
  fewer i n w = let l = w.1 in n (w.0, omega arith, w.2)

  -- an empty place
  pub seating_skip : length out ≤ seat_of at p → SeatsRead mask at out (p + 1)
  seating_skip h = record {
    made = λ q l m. elim (cases_eq q p) [
      | inl e ↦ absurd (let z : seat_of at q ≡ seat_of at p = ap (seat_of at) e in omega arith)
      | inr e ↦ s.made q (omega arith) m
    ];
    others = λ i n. s.others i (fewer i n);
  }

  pub seating_more : (places : ℕ) → p < places → Once at places (length out) → seat_of at p < length out → (seat : Seat) → SeatAt mask p seat →
      SeatsRead mask at (set out (seat_of at p) (Some seat)) (p + 1)
  seating_more places pl once h seat here =
      let new = set out (seat_of at p) (Some seat) in
      let long : length new ≡ length out = length-set out (seat_of at p) (Some seat) in
      record {
        made = λ q l m. elim (cases_eq q p) [
          | inl e ↦ subst (λ y. MatchOption (get_or new (seat_of at y) None) ⊥ (SeatAt mask y)) (sym e)
              (subst (λ v. MatchOption v ⊥ (SeatAt mask p)) (sym (get_or-set_same out (seat_of at p) (Some seat) None h)) here)
          | inr e ↦
              (let m' : seat_of at q < length out = omega arith in
              subst (λ v. MatchOption v ⊥ (SeatAt mask q))
              (sym (get_or-set_other out (seat_of at p) (seat_of at q) (Some seat) None (λ z. e (once q p (omega arith) pl m' z))))
              (s.made q (omega arith) m'))
        ];
        others = λ i n.
            get_or-set_other out (seat_of at p) i (Some seat) None (λ z. n (p, omega arith, sym z)) ∙ s.others i (fewer i n);
      }

-- open place p is the link of the slot s
pub seat_here : (mask : ℕ → ℕ) (s p link f : ℕ) → s < 1024 → f ≡ opens mask s → f ≤ p → KthOpen (mask s) (p - f) link →
    SeatAt mask p (record { slot = s; link = link })
seat_here mask s p link f l e up h =
    let o = h.2 in
    record { slot = l; opened = (h.0, h.1); place = omega arith }
