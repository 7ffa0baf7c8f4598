-- Each calendar keeps its laws: the lemmas that the calendars themselves cite, apart from the definitions. Assumes nothing.
--   none_after        a mask that is given only below the end is 0 from the end on
--   KIND_end_bound    the end of a calendar of that kind is at most 1,024
--   KIND_bound        its masks are below 256
--   KIND_after        its masks are 0 from the end on
use Rattle.std.specs.Prelude.{◌≡◌, ℕ, ◌-◌, ◌%◌, ◌^◌, ◌<◌, ◌≤◌, cond, List, ◌==◌, bit_and, nat_lt, slice_index, refl}
use Rattle.std.proofs.Common.{lit<, pow_mono, mod-lt, arith}
use Rattle.std.proofs.lemmas.Nat.{and_le_l}
use Rattle.std.proofs.lemmas.Bool.{cond_both, ltb-true}
use Rattle.calendars.specs.Masks.{even_mask, listed_end, listed_mask, carried_mask, closed_mask}

pub none_after : (end mask s : ℕ) → end ≤ s → cond (nat_lt s end) mask 0 ≡ 0
none_after end mask s h = cond_both (nat_lt s end) mask 0 (λ v. v ≡ 0) (λ e. absurd (omega (arith, ltb-true s end e))) (λ _. refl)

pub even_bound : (links end s : ℕ) → links ≤ 8 → even_mask links end s < 256
even_bound links end s h =
    cond_both (nat_lt s end) (2 ^ links - 1) 0 (λ x. x < 256) (λ _. omega (arith, pow_mono h)) (λ _. lit< tt)

pub listed_end_bound : (bytes : List ℕ) → listed_end bytes ≤ 1024
listed_end_bound bytes = omega arith

pub listed_bound : (bytes : List ℕ) (s : ℕ) → listed_mask bytes s < 256
listed_bound bytes s =
    cond_both (nat_lt s (listed_end bytes)) (slice_index bytes s % 256) 0 (λ x. x < 256) (λ _. mod-lt (slice_index bytes s) (lit< tt)) (λ _. lit< tt)

pub carried_bound : (end : ℕ) (mask : ℕ → ℕ) (s : ℕ) → ((k : ℕ) → mask k < 256) → carried_mask end mask s < 256
carried_bound end mask s h =
    cond_both (nat_lt s 1024) (cond (nat_lt s end) (mask s) (cond (end == 0) 0 (mask (end - 1)))) 0 (λ x. x < 256)
    (λ _. cond_both (nat_lt s end) (mask s) (cond (end == 0) 0 (mask (end - 1))) (λ x. x < 256) (λ _. h s)
    (λ _. cond_both (end == 0) 0 (mask (end - 1)) (λ x. x < 256) (λ _. lit< tt) (λ _. h (end - 1))))
    (λ _. lit< tt)

-- a closed stretch only takes links away
closed_le : (first past links : ℕ) (mask : ℕ → ℕ) (s : ℕ) → closed_mask first past links mask s ≤ mask s
closed_le first past links mask s =
    cond_both (nat_lt s first) (mask s) (cond (nat_lt s past) (bit_and (mask s) (255 - links)) (mask s)) (λ x. x ≤ mask s) (λ _. omega arith)
    (λ _. cond_both (nat_lt s past) (bit_and (mask s) (255 - links)) (mask s) (λ x. x ≤ mask s) (λ _. and_le_l (mask s) (255 - links)) (λ _. omega arith))

pub closed_bound : (first past links : ℕ) (mask : ℕ → ℕ) (s : ℕ) → mask s < 256 → closed_mask first past links mask s < 256
closed_bound first past links mask s h = omega (arith, closed_le first past links mask s)

pub closed_after : (first past links : ℕ) (mask : ℕ → ℕ) (s : ℕ) → mask s ≡ 0 → closed_mask first past links mask s ≡ 0
closed_after first past links mask s h = omega (arith, closed_le first past links mask s)
