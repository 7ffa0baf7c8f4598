use Rattle.std.proofs.Common.{◌≡◌, ℕ, ◌+◌, ◌<◌, ◌≤◌, Bool, true, false, length, MatchBool, sym, ap, ◌∙◌, inl, inr, arith, rules, tests}
use Rattle.std.specs.List.{AllWithin, HoldsAt, range_with_len}
use Rattle.std.proofs.lemmas.Bool.{cases_lt}
use Rattle.std.proofs.lemmas.Iterator.{cases_from_all, YieldsList-from_range}
use Rattle.std.proofs.lemmas.List.FromFn.{length-range_with_len, get_or-range_with_len}
use Rattle.calendars.specs.Places.{SameMasks}
use Rattle.calendars.proofs.Opens.{none_left}
use Rattle.calendars.proofs.places.same_masks.Goals as goal

-- masks that are the same in the slots below `last`, and from there on
answered : (m n : ℕ → ℕ) (last : ℕ) (same : Bool) → ((s : ℕ) → last ≤ s → m s ≡ n s)
    → MatchBool same (AllWithin (λ s. m s ≡ n s) (range_with_len 0 last) 0 (length (range_with_len 0 last)))
    ((k : ℕ) × (k < length (range_with_len 0 last)) × HoldsAt (λ s. m s ≡ n s → ⊥) (range_with_len 0 last) k)
    → elim same as (λ _. Type 0) [ true ↦ SameMasks m n | false ↦ (SameMasks m n → ⊥) ]
answered m n last true after h =
    λ s. elim (cases_lt s last) [
      | inl under ↦
          let none : 0 + s ≡ s = omega arith in
          let here = get_or-range_with_len 0 last s 0 under ∙ none in
          ap m (sym here) ∙ h s 0 (omega arith) (omega (arith, length-range_with_len 0 last)) ∙ ap n here
      | inr past ↦ after s past
    ]
answered m n last false after h = λ all. h.2 0 (all _)

pub returns-clause-answers : goal.returns-clause-answers
returns-clause-answers g c =
    let m = g.C.Calendar.mask c.args.c.now in
    let n = g.D.Calendar.mask c.args.d.now in
    answered m n 1024 c.all.result
    (λ s h. none_left _ m (g.met.C.Calendar.end_bound c.args.c.now) (g.met.C.Calendar.mask_after c.args.c.now) s h ∙ sym (none_left _ n (g.met.D.Calendar.end_bound c.args.d.now) (g.met.D.Calendar.mask_after c.args.d.now) s h))
    (cases_from_all _ _ _ (λ s. m s ≡ n s) (λ s. m s ≡ n s → ⊥) c.all.ensures.ran (YieldsList-from_range 0 1024 1024 (cc) (omega arith)) (λ x q k. search (rules, tests)) (λ x q k. search (rules, tests)))
