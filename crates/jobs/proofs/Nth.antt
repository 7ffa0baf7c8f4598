-- The k-th of a list, and what stands at k. Assumes nothing.
use Rattle.std.proofs.Common.{◌≡◌, ℕ, zero, suc, ◌<◌, ◌≤◌, List, [], ◌∷◌, length, get_or, Some, None, refl, arith}
use Rattle.jobs.specs.Lists.{nth}

module _ {A : Type 0} where
  -- within the list there is a k-th, and it stands at k
  pub nth_here : (xs : List A) (k : ℕ) (d : A) → k < length xs → Some (get_or xs k d) ≡ nth xs k
  nth_here [] k d l = absurd (omega arith)
  nth_here (x ∷ xs) zero d l = refl
  nth_here (x ∷ xs) (suc k) d l = nth_here xs k d (omega arith)

  -- past its end there is none
  pub nth_past : (xs : List A) (k : ℕ) → length xs ≤ k → None ≡ nth xs k
  nth_past [] k l = refl
  nth_past (x ∷ xs) zero l = absurd (omega arith)
  nth_past (x ∷ xs) (suc k) l = nth_past xs k (omega arith)

  pub nth_none : (xs : List A) (k : ℕ) → None ≡ nth xs k → length xs ≤ k
  nth_none [] k e = omega arith
  nth_none (x ∷ xs) zero e = absurd (let z : ◌≡◌ {A = ℕ} 0 1 = cc in omega arith)
  nth_none (x ∷ xs) (suc k) e = let ih = nth_none xs k e in omega arith

  pub nth_some : (xs : List A) (k : ℕ) (x : A) → Some x ≡ nth xs k → (k < length xs) × (x ≡ get_or xs k x)
  nth_some [] k x e = absurd (let z : ◌≡◌ {A = ℕ} 0 1 = cc in omega arith)
  nth_some (y ∷ xs) zero x e = (omega arith, cc)
  nth_some (y ∷ xs) (suc k) x e = let ih = nth_some xs k x e in ((let l = ih.0 in omega arith), ih.1)
