-- The rows looked at one after the other. Assumes nothing.
use Rattle.std.proofs.Common.{◌≡◌, ℕ, ◌+◌, ◌<◌, ◌≤◌, Bool, true, false, List, length, get_or, sym, refl, ◌∙◌, subst, inl, inr, arith, MatchBool}
use Rattle.std.specs.List.{AllWithin, HoldsAt, range_with_len}
use Rattle.std.proofs.lemmas.Bool.{cases_order, false≢true}
use Rattle.std.proofs.lemmas.List.FromFn.{length-range_with_len, get_or-range_with_len}
use Rattle.jobs.specs.declared.terms.Row.{Row}
use Rattle.placing.specs.Placing.{row}
use Rattle.drawing.specs.Draw.{Drawable}

-- a row below i has the number of row i
abbrev pub Taken : List Row → ℕ → Type 0
Taken rows i = (j : ℕ) × (j < i) × ((row rows j).number ≡ (row rows i).number)

-- the rows end by slot 1,024, and none has the number of a row before it
pub checked : (rows : List Row) (all : Bool) → length rows ≤ 256
    → MatchBool all
    (AllWithin (λ i. ((row rows i).deadline ≤ 1024) × (Taken rows i → ⊥)) (range_with_len 0 (length rows)) 0 (length (range_with_len 0 (length rows))))
    ((k : ℕ) × (k < length (range_with_len 0 (length rows))) × HoldsAt (λ i. (row rows i).deadline ≤ 1024 → Taken rows i) (range_with_len 0 (length rows)) k)
    → (all ≡ true → Drawable rows) × (Drawable rows → all ≡ true)
checked rows true few h =
    let each : (i : ℕ) → i < length rows → ((row rows i).deadline ≤ 1024) × (Taken rows i → ⊥)
    = λ i l. let none : 0 + i ≡ i = omega arith in
    let P : ℕ → Type 0 = λ j. ((row rows j).deadline ≤ 1024) × (Taken rows j → ⊥) in
    subst P (get_or-range_with_len 0 (length rows) i 0 l ∙ none) (h i 0 (omega arith) (omega (arith, length-range_with_len 0 (length rows)))) in (
      (λ _. record {
        few = few;
        deadlines = λ i l. (each i l).0;
        apart = λ a k l m z.
            elim (cases_order a k) [
              | inl e ↦ e
              | inr e ↦ elim e [ inl y ↦ absurd ((each k m).1 (a, y, z)) | inr y ↦ absurd ((each a l).1 (k, y, sym z)) ]
            ];
      }),
      λ _. refl,
    )
checked rows false few h =
    let k = h.0 in
    let l : k < length rows = omega (arith, h.1, length-range_with_len 0 (length rows)) in
    let none : get_or (range_with_len 0 (length rows)) k 0 ≡ k = let z : 0 + k ≡ k = omega arith in get_or-range_with_len 0 (length rows) k 0 l ∙ z in
    let P : ℕ → Type 0 = λ j. (row rows j).deadline ≤ 1024 → Taken rows j in
    let here = subst P none (h.2 0) in (
      (λ e. absurd (false≢true e)),
      λ d. let w = here (d.deadlines k l) in
          let m : w.0 < length rows = omega (arith, w.1) in
          let same = d.apart w.0 k m l w.2 in
          absurd (omega (arith, w.1, same)),
    )
