-- The smallest run round a dropped job: there is one, since runs can be widened only up to the full one, and it is full. Assumes nothing.
use Rattle.std.proofs.Common.{◌≡◌, ℕ, zero, suc, ◌+◌, ◌-◌, ◌<◌, ◌≤◌, min, max, Bool, true, false, ◌&&◌, ◌||◌, ltb, leb, ◌⊎◌, ap, inl, inr, arith}
use Rattle.std.proofs.lemmas.Bool.{cases_lt}
use Rattle.std.proofs.lemmas.Bool.Decides.{nat_tests}
use Rattle.dealing.specs.Boards.{Table, Board, Placing}
use Rattle.dealing.specs.Choice.{Greedy}
use Rattle.dealing.specs.Stretches.{Run, StretchExists, StretchIsFull}
use Rattle.dealing.proofs.Choice.{dropped_has_full_run}
use Rattle.dealing.proofs.Counting.{any_below}

-- the full run round a dropped job holds the whole window of each job seated in it
module _ (b : Board) (t : Table) (kept : ℕ → Bool) (g : Greedy b t kept) (s : Placing b t kept) (i : ℕ) (l : i < t.size) (k : kept i ≡ false) where
  full : (a : ℕ) × (e : ℕ) × Run b t kept s i a e × ((p : ℕ) → p < b.places → b.free p ≡ true → a ≤ b.slot p → b.slot p < e → (j : ℕ) × (j < i) × (kept j ≡ true) × (s.seat j ≡ p))
  full =
      let w = dropped_has_full_run b t kept g i l k in (
        w.0,
        w.1,
        (
          w.2,
          w.3,
          λ j jl kj aj je.
              let z = s.sits j jl kj in
              let v = w.4 kept (λ x _ y. y) s (s.seat j) z.0 z.1 aj je in
              let o : v.0 ≡ j = s.apart v.0 j (omega arith) jl v.2 kj v.5 in
              let r : t.ready v.0 ≡ t.ready j = ap t.ready o in
              let d : t.deadline v.0 ≡ t.deadline j = ap t.deadline o in
              (omega arith, omega arith),
        ),
        (λ p pl f ap pe. let v = w.4 kept (λ x _ y. y) s p pl f ap pe in (v.0, v.1, v.2, v.5)),
      )

  -- a kept job that sits in the run and reaches out of it
  escapes : ℕ → ℕ → ℕ → Bool
  escapes lo hi j = kept j && ((leb lo (b.slot (s.seat j)) && ltb (b.slot (s.seat j)) hi) && (ltb (t.ready j) lo || ltb hi (t.deadline j)))

  escapes_parts : (lo hi j : ℕ) → escapes lo hi j ≡ true → (kept j ≡ true) × (lo ≤ b.slot (s.seat j)) × (b.slot (s.seat j) < hi) × ((t.ready j < lo) ⊎ (hi < t.deadline j))
  unfolding escapes
  escapes_parts lo hi j h = (
    grind (arith, nat_tests),
    grind (arith, nat_tests),
    grind (arith, nat_tests),
    elim (cases_lt (t.ready j) lo) [ inl x ↦ inl x | inr x ↦ inr (grind (arith, nat_tests)) ],
  )

  escapes_not : (lo hi j : ℕ) → escapes lo hi j ≡ false → kept j ≡ true → lo ≤ b.slot (s.seat j) → b.slot (s.seat j) < hi → (lo ≤ t.ready j) × (t.deadline j ≤ hi)
  unfolding escapes
  escapes_not lo hi j h e x y = (grind (arith, nat_tests), grind (arith, nat_tests))

  -- from a run that lies in every other, widened until no job escapes; n bounds how often
  widen : (n lo hi : ℕ) → (lo - full.0) + (full.1 - hi) ≤ n → lo ≤ t.ready i → t.deadline i ≤ hi → ((lo' hi' : ℕ) → Run b t kept s i lo' hi' → (lo' ≤ lo) × (hi ≤ hi')) →
      (x : ℕ) × (y : ℕ) × Run b t kept s i x y × ((lo' hi' : ℕ) → Run b t kept s i lo' hi' → (lo' ≤ x) × (y ≤ hi'))
  widen zero lo hi m r d inner =
      elim (any_below (escapes lo hi) t.size) [
        | inr w ↦ (lo, hi, (r, d, λ j jl kj x y. escapes_not lo hi j (w j jl) kj x y), inner)
        | inl w ↦
            (let z = escapes_parts lo hi w.0 w.2 in
            let f = inner full.0 full.1 full.2 in
            let q = full.2.2 w.0 w.1 z.0 (omega arith) (omega arith) in
            absurd (omega arith))
      ]
  widen (suc n) lo hi m r d inner =
      elim (any_below (escapes lo hi) t.size) [
        | inr w ↦ (lo, hi, (r, d, λ j jl kj x y. escapes_not lo hi j (w j jl) kj x y), inner)
        | inl w ↦
            (let z = escapes_parts lo hi w.0 w.2 in
            let f = inner full.0 full.1 full.2 in
            let q = full.2.2 w.0 w.1 z.0 (omega arith) (omega arith) in
            widen n (min lo (t.ready w.0)) (max hi (t.deadline w.0)) (omega arith) (omega arith) (omega arith)
            (λ x y run.
            let o = inner x y run in
            let v = run.2 w.0 w.1 z.0 (omega arith) (omega arith) in
            (omega arith, omega arith)))
      ]

pub stretch_exists : StretchExists
stretch_exists b t kept g s i l k =
    widen b t kept g s i l k ((t.ready i - (full b t kept g s i l k).0) + ((full b t kept g s i l k).1 - t.deadline i)) (t.ready i) (t.deadline i)
    (omega arith) (omega arith) (omega arith) (λ x y run. (run.0, run.1))

pub stretch_is_full : StretchIsFull
stretch_is_full b t kept g s i l k lo hi run smallest p pl f lp ph =
    let w = full b t kept g s i l k in
    let big = smallest w.0 w.1 w.2 in
    let v = w.3 p pl f (omega arith) (omega arith) in
    let sp : b.slot (s.seat v.0) ≡ b.slot p = ap b.slot v.3 in
    let q = run.2 v.0 (omega arith) v.2 (omega arith) (omega arith) in
    (v.0, v.1, v.2, q.0, q.1, v.3)
