-- The masks of an even calendar and of a closed stretch, link by link.
use Rattle.std.proofs.Common.{◌≡◌, ℕ, ◌-◌, ◌%◌, ◌^◌, ◌<◌, ◌≤◌, true, false, cond, ◌&&◌, ltb, ap, ◌∙◌, arith}
use lib.Bits.{bit_and}
use native.Mathlib.Nat.{zero-div}
use Rattle.std.proofs.lemmas.Bool.{cond-true, cond-false, lt-ltb, le-ltb}
use Rattle.calendars.specs.Masks.{even_mask, closed_mask, link_open, EvenlyOpen, ClosedIn}
use Rattle.calendars.proofs.Bits.{lowest_open, closed_open}

pub evenly_open : (links end : ℕ) → EvenlyOpen links end (even_mask links end)
evenly_open links end s l =
    elim (ltb s end) as (λ v. link_open (cond v (2 ^ links - 1) 0) l ≡ cond (v && ltb l links) 1 0) [
      | true ↦ lowest_open links l
      | false ↦ ap (λ (x : ℕ). x % 2) (zero-div (2 ^ l))
    ]

pub closed_in : (first past links : ℕ) (below : ℕ → ℕ) → links < 256 → first ≤ past
    → ClosedIn first past links below (closed_mask first past links below)
closed_in first past links below small forward =
    let less : ℕ → ℕ = λ s. bit_and (below s) (255 - links) in
    let rest : ℕ → ℕ = λ s. cond (ltb s past) (less s) (below s) in (
      λ s h. cond-true (ltb s first) (below s) (rest s) (lt-ltb s first h),
      λ s h. cond-false (ltb s first) (below s) (rest s) (le-ltb s first (omega arith)) ∙ cond-false (ltb s past) (less s) (below s) (le-ltb s past h),
      λ s l from under few.
          ap (λ (m : ℕ). link_open m l)
          (cond-false (ltb s first) (below s) (rest s) (le-ltb s first from) ∙ cond-true (ltb s past) (less s) (below s) (lt-ltb s past under))
          ∙ closed_open (below s) links l small few,
    )
