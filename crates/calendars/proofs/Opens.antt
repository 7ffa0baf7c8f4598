-- Counts of open places: slot by slot, and from slot 1,024 on.
use Rattle.std.proofs.Common.{◌≡◌, ℕ, zero, suc, ◌+◌, ◌-◌, ◌*◌, ◌<◌, ◌≤◌, refl, ap, ◌∙◌, ap₂, add-one, arith}
use lib.Count.{ones, ones-ones, ones-le}
use Rattle.std.specs.List.{sum_by, range_with_len}
use Rattle.std.proofs.lemmas.List.Sums.{sum_by-cons}
use Rattle.calendars.specs.Places.{opens}

pub opens_none : (mask : ℕ → ℕ) → opens mask 0 ≡ 0
unfolding opens
opens_none mask = refl

pub opens_more : (mask : ℕ → ℕ) (s : ℕ) → opens mask (s + 1) ≡ opens mask s + ones (mask s)
unfolding opens
opens_more mask s = ap (opens mask) (add-one s)

-- the counts of a stretch of slots, added up
opens_stretch : (mask : ℕ → ℕ) (s n : ℕ) → opens mask s + sum_by (λ k. ones (mask k)) (range_with_len s n) ≡ opens mask (s + n)
opens_stretch mask s zero = let none : s ≡ s + 0 = omega arith in omega (arith, ap (opens mask) none)
opens_stretch mask s (suc n) =
    let next : s + 1 + n ≡ s + suc n = omega arith in
    omega (arith, sum_by-cons (λ k. ones (mask k)) s (range_with_len (s + 1) n), opens_more mask s, opens_stretch mask (s + 1) n, ap (opens mask) next)

pub opens_summed : (mask : ℕ → ℕ) (n : ℕ) → sum_by (λ k. ones (mask k)) (range_with_len 0 n) ≡ opens mask n
opens_summed mask n =
    let all : 0 + n ≡ n = omega arith in omega (arith, opens_none mask, opens_stretch mask 0 n, ap (opens mask) all)

-- no slot has more than eight
pub opens_few : (mask : ℕ → ℕ) → ((k : ℕ) → mask k < 256) → (s : ℕ) → opens mask s ≤ 8 * s
opens_few mask small zero = omega (arith, opens_none mask)
opens_few mask small (suc s) =
    let next : s + 1 ≡ suc s = omega arith in
    omega (arith, opens_few mask small s, opens_more mask s, ap (opens mask) next, ones-le 8 (mask s) (small s))

-- equal masks give equal counts
pub opens_same : (m n : ℕ → ℕ) → ((k : ℕ) → m k ≡ n k) → (s : ℕ) → opens m s ≡ opens n s
unfolding opens
opens_same m n h zero = refl
opens_same m n h (suc s) = ap₂ (λ (x y : ℕ). x + y) (opens_same m n h s) (ap ones (h s))

-- slots without an open link add nothing
opens_beyond : (mask : ℕ → ℕ) (end : ℕ) → ((k : ℕ) → end ≤ k → mask k ≡ 0) → (more : ℕ) → opens mask (end + more) ≡ opens mask end
opens_beyond mask end h zero = ap (opens mask) (omega arith)
opens_beyond mask end h (suc more) =
    let step : end + suc more ≡ end + more + 1 = omega arith in
    ap (opens mask) step
    ∙ omega (arith, opens_more mask (end + more), ap ones (h (end + more) (omega arith)), ones-ones 0, opens_beyond mask end h more)

-- from slot 1,024 on a calendar has no open link, so its count stays what it is there
pub none_left : (end : ℕ) (mask : ℕ → ℕ) → end ≤ 1024 → ((s : ℕ) → end ≤ s → mask s ≡ 0) → (s : ℕ) → 1024 ≤ s → mask s ≡ 0
none_left end mask short after s h = after s (omega arith)

pub opens_all : (mask : ℕ → ℕ) → ((k : ℕ) → 1024 ≤ k → mask k ≡ 0) → (s : ℕ) → 1024 ≤ s → opens mask s ≡ opens mask 1024
opens_all mask none s h =
    let split : s ≡ 1024 + (s - 1024) = omega arith in ap (opens mask) split ∙ opens_beyond mask 1024 none (s - 1024)
