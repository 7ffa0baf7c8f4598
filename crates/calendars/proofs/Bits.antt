-- Bits of a mask: how many are set below a bit, the lowest ones, those that another mask leaves.
use Rattle.std.proofs.Common.{◌≡◌, ℕ, zero, suc, ◌+◌, ◌-◌, ◌/◌, ◌%◌, ◌^◌, ◌<◌, ◌≤◌, Bool, cond, eqb, ltb, List, ◌∷◌, Option, None, Some, MatchOption, sym, ap, ◌∙◌, ⊎_elim, add_comm, add-one, one-add, arith, lit<, pow_mono}
use lib.Count.{ones, ones-ones, ones_cat}
use lib.Bits.{bit_and, and_step}
use native.Mathlib.Nat.{mod-one, two-pow-succ, div-eq_of_lt, zero-div}
use Rattle.std.proofs.lemmas.Nat.{mod-pow-add, mod_below, pow_pos, shr_split, shr-shr, and_shr}
use Rattle.std.proofs.lemmas.Bool.{cond_both, ltb-true, ltb-false}
use Rattle.std.proofs.Math.Nat.{eq-or-lt_of_le}
use Rattle.calendars.specs.Masks.{link_open}
use Rattle.calendars.specs.Places.{KthOpen}

ones_bit : (d : ℕ) → d < 2 → ones d ≡ d
ones_bit zero h = ones-ones 0
ones_bit (suc zero) h = ones-ones 1
ones_bit (suc (suc d)) h = absurd (omega arith)

pub ones_below_none : (m : ℕ) → ones (m % 1) ≡ 0
ones_below_none m = ap ones (mod-one m) ∙ ones-ones 0

pub ones_below_more : (m b : ℕ) → ones (m % 2 ^ (b + 1)) ≡ m / 2 ^ b % 2 + ones (m % 2 ^ b)
ones_below_more m b =
    ap (λ (x : ℕ). ones (m % 2 ^ x)) (add_comm b 1) ∙ ap ones (mod-pow-add m 1 b)
    ∙ ones_cat b (m / 2 ^ b % 2) (m % 2 ^ b) (mod_below m (2 ^ b) (pow_pos b))
    ∙ ap (λ (x : ℕ). x + ones (m % 2 ^ b)) (ones_bit (m / 2 ^ b % 2) (mod_below (m / 2 ^ b) 2 (lit< tt)))

pub ones_below_le : (m b : ℕ) → ones (m % 2 ^ b) ≤ ones m
ones_below_le m b =
    let split : ones m ≡ ones (m / 2 ^ b) + ones (m % 2 ^ b)
    = ap ones (sym (shr_split m b)) ∙ ones_cat b (m / 2 ^ b) (m % 2 ^ b) (mod_below m (2 ^ b) (pow_pos b)) in
    omega (arith, split)

-- the link is set, and the set bits below it are as many as wanted; or there are not that many below the top
abbrev CountedTo : (mask top wanted : ℕ) → Option ℕ → Type 0
CountedTo mask top wanted bit =
    MatchOption bit (ones (mask % 2 ^ top) ≤ wanted) (λ b. (b < top) × (link_open mask b ≡ 1) × (ones (mask % 2 ^ b) ≡ wanted))

-- where no bit below the top is the k-th, there are at most k below it
none_kth : (mask k top : ℕ) → top ≤ 8 → ((b : ℕ) → b < 8 → KthOpen mask k b → ⊥) → ones (mask % 2 ^ top) ≤ k
none_kth mask k zero h none = omega (arith, ones_below_none mask)
none_kth mask k (suc n) h none =
    let below = none_kth mask k n (omega arith) none in
    let top : ones (mask % 2 ^ suc n) ≡ link_open mask n + ones (mask % 2 ^ n) = ap (λ (x : ℕ). ones (mask % 2 ^ x)) (sym (add-one n)) ∙ ones_below_more mask n in
    let one : link_open mask n < 2 = mod_below (mask / 2 ^ n) 2 (lit< tt) in
    ⊎_elim
    (λ (e : ones (mask % 2 ^ n) ≡ k).
    ⊎_elim
    (λ (set : link_open mask n ≡ 1). absurd (none n (omega arith) (omega arith, set, e)))
    (λ (shut : link_open mask n < 1). omega (arith, top))
    (eq-or-lt_of_le (omega arith)))
    (λ (fewer : ones (mask % 2 ^ n) < k). omega (arith, top))
    (eq-or-lt_of_le below)

within : (mask k : ℕ) (bit : Option ℕ) → mask < 256 → CountedTo mask 8 k bit
    → MatchOption bit (ones mask ≤ k) (λ b. (k < ones mask) × KthOpen mask k b)
within mask k None small h =
    let all : mask % 2 ^ 8 ≡ mask = omega arith in omega (arith, h, ap ones all)
within mask k (Some b) small h =
    (omega (arith, h.1, h.2, ones_below_more mask b, ones_below_le mask (b + 1)), (h.0, h.1, h.2))

-- the k-th set bit of a mask of eight
pub kth_found : (mask k : ℕ) (bit : Option ℕ) → mask < 256
    → MatchOption bit ((b : ℕ) → 0 ≤ b → b < 8 → KthOpen mask k b → ⊥) (λ b. (0 ≤ b) × (b < 8) × KthOpen mask k b × ((j : ℕ) → 0 ≤ j → j < b → KthOpen mask k j → ⊥))
    → MatchOption bit (ones mask ≤ k) (λ b. (k < ones mask) × KthOpen mask k b)
kth_found mask k None small h = within mask k None small (none_kth mask k 8 (omega arith) (λ b l. h b (omega arith) l))
kth_found mask k (Some b) small h = within mask k (Some b) small h.2

half_first : (n l : ℕ) → n / 2 ^ suc l ≡ n / 2 / 2 ^ l
half_first n l = ap (λ (k : ℕ). n / 2 ^ k) (sym (one-add l)) ∙ sym (shr-shr n 1 l)

-- of w bits, those that are not in n
others_bit : (w n l : ℕ) → n < 2 ^ w → l < w → (2 ^ w - 1 - n) / 2 ^ l % 2 ≡ 1 - n / 2 ^ l % 2
others_bit zero n l h under = absurd (omega arith)
others_bit (suc w) n zero h under = omega (arith, two-pow-succ w, pow_pos w)
others_bit (suc w) n (suc l) h under =
    let half : (2 ^ suc w - 1 - n) / 2 ≡ 2 ^ w - 1 - n / 2 = omega (arith, two-pow-succ w, pow_pos w) in
    let small : n / 2 < 2 ^ w = omega (arith, two-pow-succ w) in
    ap (λ (x : ℕ). x % 2) (half_first (2 ^ suc w - 1 - n) l) ∙ ap (λ (x : ℕ). x / 2 ^ l % 2) half
    ∙ others_bit w (n / 2) l small (omega arith) ∙ ap (λ (x : ℕ). 1 - x % 2) (sym (half_first n l))

pub lowest_open : (links l : ℕ) → link_open (2 ^ links - 1) l ≡ cond (ltb l links) 1 0
lowest_open links l =
    cond_both (ltb l links) 1 0 (λ x. link_open (2 ^ links - 1) l ≡ x)
    (λ e. let whole : 2 ^ links - 1 ≡ 2 ^ links - 1 - 0 = omega arith in
    ap (λ (x : ℕ). x / 2 ^ l % 2) whole ∙ others_bit links 0 l (pow_pos links) (ltb-true l links e)
    ∙ ap (λ (x : ℕ). 1 - x % 2) (zero-div (2 ^ l)))
    (λ e. let small : 2 ^ links - 1 < 2 ^ l = omega (arith, pow_mono (ltb-false l links e), pow_pos links) in
    ap (λ (x : ℕ). x % 2) (div-eq_of_lt small))

pub closed_open : (m links l : ℕ) → links < 256 → l < 8 → link_open (bit_and m (255 - links)) l ≡ link_open m l - link_open links l
closed_open m links l h under =
    omega (arith, and_shr m (255 - links) l, and_step (m / 2 ^ l) ((255 - links) / 2 ^ l), others_bit 8 links l h under)
