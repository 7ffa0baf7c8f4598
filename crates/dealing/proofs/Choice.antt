-- What is kept in turn: its placings, and the full run round each dropped job. Assumes nothing.
--   below kept m     the jobs kept before m
--   carry, part      a placing read by other numbers, and of a part
use Rattle.std.proofs.Common.{◌≡◌, ℕ, zero, suc, ◌<◌, ◌≤◌, Bool, true, false, ◌&&◌, eqb, ltb, ◌⊎◌, sym, refl, ap, ◌∙◌, subst, inl, inr, arith}
use Rattle.std.proofs.lemmas.Bool.{cases_Bool, cases_eq, both_ways}
use Rattle.std.proofs.lemmas.Bool.Decides.{nat_tests}
use Rattle.dealing.specs.Boards.{Table, Board, Placing, within, room, bound, load}
use Rattle.dealing.specs.Choice.{adding, Greedy, KeptArePlaced, DroppedHasFullRun}
use Rattle.dealing.proofs.Boards.{within_from, bound_from, bound_parts, load_fits_room}
use Rattle.dealing.proofs.Counting.{inject, count_mono, any_below, without, without_true, count_without}
use Rattle.dealing.proofs.Seating.{placed_or_overloaded}

without_parts : (q : ℕ → Bool) (j x : ℕ) → without q j x ≡ true → (q x ≡ true) × (x ≡ j → ⊥)
without_parts q j x h = (grind (arith, nat_tests), λ e. grind (arith, nat_tests))

-- what is kept below m
abbrev pub below : (ℕ → Bool) → ℕ → ℕ → Bool
below kept m j = ltb j m && kept j

pub below_parts : (kept : ℕ → Bool) (m j : ℕ) → below kept m j ≡ true → (j < m) × (kept j ≡ true)
below_parts kept m j h = (grind (arith, nat_tests), grind (arith, nat_tests))

pub below_from : (kept : ℕ → Bool) (m j : ℕ) → j < m → kept j ≡ true → below kept m j ≡ true
below_from kept m j l h = grind (arith, nat_tests)

pub adding_from : (kept : ℕ → Bool) (i j : ℕ) → ((j < i) × (kept j ≡ true)) ⊎ (j ≡ i) → adding kept i j ≡ true
adding_from kept i j (inl h) = let l = h.0 in let k = h.1 in grind (arith, nat_tests)
adding_from kept i j (inr h) = grind (arith, nat_tests)

pub adding_parts : (kept : ℕ → Bool) (i j : ℕ) → adding kept i j ≡ true → (j ≡ i → ⊥) → below kept i j ≡ true
adding_parts kept i j h n = grind (arith, nat_tests)

-- a placing, of other jobs by other numbers
pub carry : (b : Board) (t u : Table) (K L : ℕ → Bool) (f : ℕ → ℕ) → Placing b t K →
    ((i : ℕ) → i < u.size → L i ≡ true → (f i < t.size) × (K (f i) ≡ true) × (t.ready (f i) ≡ u.ready i) × (t.deadline (f i) ≡ u.deadline i)) →
    ((i j : ℕ) → i < u.size → j < u.size → L i ≡ true → L j ≡ true → f i ≡ f j → i ≡ j) → Placing b u L
carry b t u K L f s h inj = record {
  seat = λ i. s.seat (f i);
  sits = λ i l k.
      let g = h i l k in
      let z = s.sits (f i) g.0 g.1 in
      (z.0, z.1, omega arith, omega arith);
  apart = λ i j l m k n z. inj i j l m k n (s.apart (f i) (f j) (h i l k).0 (h j m n).0 (h i l k).1 (h j m n).1 z);
}

-- a placing of a part
pub part : (b : Board) (t : Table) (K L : ℕ → Bool) → Placing b t K → ((i : ℕ) → i < t.size → L i ≡ true → K i ≡ true) → Placing b t L
part b t K L s h = carry b t t K L (λ i. i) s (λ i l k. (l, h i l k, refl, refl)) (λ i j l m k n z. z)

module _ (b : Board) (t : Table) (kept : ℕ → Bool) (g : Greedy b t kept) where
  together_below : (m : ℕ) → m ≤ t.size → Placing b t (below kept m)
  together_below zero h = record {
    seat = λ i. i;
    sits = λ i l k. absurd (let z = below_parts kept 0 i k in omega arith);
    apart = λ i j l m k. absurd (let z = below_parts kept 0 i k in omega arith);
  }
  together_below (suc m) h =
      elim (cases_Bool (kept m)) [
        | inl e ↦ part b t (adding kept m) (below kept (suc m)) (g.fits m (omega arith) e)
            (λ i l k. let z = below_parts kept (suc m) i k in
            adding_from kept m i (elim (cases_eq i m) [ inl s ↦ inr s | inr s ↦ inl (omega arith, z.1) ]))
        | inr e ↦ part b t (below kept m) (below kept (suc m)) (together_below m (omega arith))
            (λ i l k. let z = below_parts kept (suc m) i k in
            elim (cases_eq i m) [ inl s ↦ absurd (both_ways (kept m) e (subst (λ x. kept x ≡ true) s z.1)) | inr s ↦ below_from kept m i (omega arith) z.1 ])
      ]

  lower : (i a e j : ℕ) → bound t (adding kept i) a e j ≡ true → (j ≡ i → ⊥) → bound t (below kept i) a e j ≡ true
  lower i a e j h n =
      let z = bound_parts t (adding kept i) a e j h in
      bound_from t (below kept i) a e j (adding_parts kept i j z.0 n) z.1 z.2

  -- the numbers of a tight run
  tight_run : (i : ℕ) → i < t.size → kept i ≡ false → (a : ℕ) × (e : ℕ) × (a ≤ t.ready i) × (t.deadline i ≤ e) × (room b a e ≤ load t (below kept i) a e)
  tight_run i l k =
      elim (placed_or_overloaded b t (adding kept i)) [
        | inl s ↦ absurd (g.refused i l k s)
        | inr w ↦
            (let f = load_fits_room b t (below kept i) (together_below i (omega arith)) w.0 w.1 in
            elim (cases_Bool (bound t (adding kept i) w.0 w.1 i)) [
              | inl y ↦
                  (let z = bound_parts t (adding kept i) w.0 w.1 i y in
                  let c = count_without (bound t (adding kept i) w.0 w.1) i t.size l y in
                  let m = count_mono (without (bound t (adding kept i) w.0 w.1) i) (bound t (below kept i) w.0 w.1) t.size (λ j jl h.
                  let h' = without_parts (bound t (adding kept i) w.0 w.1) i j h in
                  lower i w.0 w.1 j h'.0 h'.1) in
                  (w.0, w.1, z.1, z.2, omega arith))
              | inr y ↦
                  (let m = count_mono (bound t (adding kept i) w.0 w.1) (bound t (below kept i) w.0 w.1) t.size (λ j jl h.
                  lower i w.0 w.1 j h (λ s. both_ways (bound t (adding kept i) w.0 w.1 i) y (subst (λ x. bound t (adding kept i) w.0 w.1 x ≡ true) s h))) in
                  absurd (omega arith))
            ])
      ]

pub kept_are_placed : KeptArePlaced
kept_are_placed b t kept g = part b t (below kept t.size) kept (together_below b t kept g t.size (omega arith)) (λ i l k. below_from kept t.size i l k)

-- where the bound jobs are as many as the places, each place is the seat of one
onto : (b : Board) (t : Table) (K : ℕ → Bool) (s : Placing b t K) (L : ℕ → Bool) → ((j : ℕ) → j < t.size → L j ≡ true → K j ≡ true) →
    (a e : ℕ) → room b a e ≤ load t L a e → (p : ℕ) → p < b.places → b.free p ≡ true → a ≤ b.slot p → b.slot p < e →
    (j : ℕ) × (j < t.size) × (L j ≡ true) × (a ≤ t.ready j) × (t.deadline j ≤ e) × (s.seat j ≡ p)
onto b t K s L up a e full p pl f ap pe =
    elim (any_below (λ j. bound t L a e j && eqb (s.seat j) p) t.size) [
      | inl w ↦
          (let w2 = w.2 in
          let x : bound t L a e w.0 ≡ true = grind (arith, nat_tests) in
          let y : s.seat w.0 ≡ p = grind (arith, nat_tests) in
          let z = bound_parts t L a e w.0 x in
          (w.0, w.1, z.0, z.1, z.2, y))
      | inr w ↦
          (let c = count_without (within b a e) p b.places pl (within_from b a e p f ap pe) in
          let m = inject t.size (bound t L a e) b.places (without (within b a e) p) (λ j q. (j < t.size) × (K j ≡ true) × (s.seat j ≡ q))
          (λ j jl h.
          let z = bound_parts t L a e j h in
          let k = up j jl z.0 in
          let g = s.sits j jl k in
          let n : s.seat j ≡ p → ⊥ = λ y. (let wj = w j jl in let o : ◌≡◌ {A = ℕ} 0 1 = grind (arith, nat_tests) in omega arith) in
          (s.seat j, g.0, without_true (within b a e) p (s.seat j) (within_from b a e (s.seat j) g.1 (omega arith) (omega arith)) n, (jl, k, refl)))
          (λ j k q x y. s.apart j k x.0 y.0 x.1 y.1 (x.2 ∙ sym y.2)) in
          absurd (omega arith))
    ]

pub dropped_has_full_run : DroppedHasFullRun
dropped_has_full_run b t kept g i l k =
    let w = tight_run b t kept g i l k in (
      w.0,
      w.1,
      w.2,
      w.3,
      λ K up s p pl f ap pe.
          let o = onto b t K s (below kept i) (λ j jl h. let z = below_parts kept i j h in up j z.0 z.1) w.0 w.1 w.4 p pl f ap pe in
          let z = below_parts kept i o.0 o.2 in
          (o.0, z.0, z.1, o.3, o.4, o.5),
    )
