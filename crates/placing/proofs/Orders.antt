-- The orders in force, as tests and in words, and that they are such orders. Assumes nothing.
use Rattle.std.proofs.Common.{◌≡◌, ℕ, ◌<◌, ◌≤◌, Bool, true, false, not, ◌&&◌, ◌||◌, ltb, ◌⊎◌, refl, inl, inr, arith}
use Rattle.std.proofs.lemmas.Bool.{cases_lt, both_ways}
use Rattle.std.proofs.lemmas.Bool.Decides.{nat_tests}
use Rattle.weights.proofs.Ranked.{strict_rank}
use Rattle.placing.specs.Orders.{HeavierThenLowerMeans, HeavierThenLowerRanks, goes_first, ServedFirst, EarliestThenLowerMeans, EarliestThenLowerServes}

first_parts : (d n e m : ℕ) → goes_first d n e m ≡ true → ServedFirst d n e m
first_parts d n e m h = elim (cases_lt d e) [ inl l ↦ inl l | inr l ↦ inr (grind (arith, nat_tests), grind (arith, nat_tests)) ]

first_from : (d n e m : ℕ) → ServedFirst d n e m → goes_first d n e m ≡ true
first_from d n e m (inl h) = grind (arith, nat_tests)
first_from d n e m (inr h) = let a = h.0 in let b = h.1 in grind (arith, nat_tests)

pub earliest_then_lower_means : EarliestThenLowerMeans
earliest_then_lower_means r s = (first_parts r.deadline r.number s.deadline s.number, first_from r.deadline r.number s.deadline s.number)

pub earliest_then_lower_serves : EarliestThenLowerServes
earliest_then_lower_serves = record {
  deadlines = λ r s h. let w = first_parts r.deadline r.number s.deadline s.number h in omega arith;
  never = λ r h. let w = first_parts r.deadline r.number r.deadline r.number h in omega arith;
  trans = λ r s t h g.
      let v = first_parts r.deadline r.number s.deadline s.number h in
      let w = first_parts s.deadline s.number t.deadline t.number g in
      first_from r.deadline r.number t.deadline t.number (ways r.deadline r.number t.deadline t.number (omega arith) (λ e. omega arith));
  either = λ r s ne. elim (cases_lt r.deadline s.deadline) [
    | inl l ↦ inl (first_from r.deadline r.number s.deadline s.number (inl l))
    | inr l ↦ elim (cases_lt s.deadline r.deadline) [
      | inl m ↦ inr (first_from s.deadline s.number r.deadline r.number (inl m))
      | inr m ↦ elim (cases_lt r.number s.number) [
        | inl k ↦ inl (first_from r.deadline r.number s.deadline s.number (inr (omega arith, k)))
        | inr k ↦ inr (first_from s.deadline s.number r.deadline r.number (inr (omega arith, omega arith)))
      ]
    ]
  ];
  jobs = λ r s q t a b h.
      let w = first_parts r.deadline r.number s.deadline s.number h in
      let a0 = a.0 in
      let a2 = a.2 in
      let b0 = b.0 in
      let b2 = b.2 in
      first_from q.deadline q.number t.deadline t.number (ways q.deadline q.number t.deadline t.number (omega arith) (λ e. omega arith));
}
  where
    ways : (d n e m : ℕ) → d ≤ e → (d ≡ e → n < m) → ServedFirst d n e m
    ways d n e m h tie = elim (cases_lt d e) [ inl l ↦ inl l | inr l ↦ (let z : d ≡ e = omega arith in inr (z, tie z)) ]

pub heavier_then_lower_means : {W : Type 0} → HeavierThenLowerMeans W
heavier_then_lower_means no_lighter a b = (parts (no_lighter a.weight b.weight) (no_lighter b.weight a.weight), from (no_lighter a.weight b.weight) (no_lighter b.weight a.weight))
  where
    parts : (x y : Bool) → x && (not y || ltb a.number b.number) ≡ true → ((x ≡ true) × (y ≡ false)) ⊎ ((x ≡ true) × (y ≡ true) × (a.number < b.number))
    parts true false h = inl (refl, refl)
    parts true true h = inr (refl, refl, grind (arith, nat_tests))
    parts false y h = absurd (both_ways false refl h)

    from : (x y : Bool) → ((x ≡ true) × (y ≡ false)) ⊎ ((x ≡ true) × (y ≡ true) × (a.number < b.number)) → x && (not y || ltb a.number b.number) ≡ true
    from x y (inl h) = rw (h.0, h.1)
    from x y (inr h) = let l = h.2 in rw (h.0, h.1) (grind (arith, nat_tests))

-- the strict order of numbered weights, on jobs
pub heavier_then_lower_ranks : {W : Type 0} → HeavierThenLowerRanks W
heavier_then_lower_ranks no_lighter weighs =
    let s = strict_rank no_lighter weighs.total weighs.trans in
    record {
      weights = λ a b h. s.refines a.weight b.weight a.number b.number h;
      never = λ a h. both_ways _ (s.irreflexive a.weight a.number) h;
      trans = λ a b c h g. s.transitive a.weight b.weight c.weight a.number b.number c.number h g;
      either = λ a b ne. s.decided a.weight b.weight a.number b.number ne;
    }
