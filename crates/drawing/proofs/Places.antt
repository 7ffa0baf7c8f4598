-- The counts of a calendar number its open places. Assumes nothing.
use Rattle.std.proofs.Common.{◌≡◌, ℕ, zero, suc, ◌+◌, ◌-◌, ◌*◌, ◌/◌, ◌%◌, ◌^◌, ◌<◌, ◌≤◌, Bool, true, false, List, length, get_or, replicate, sym, refl, ap, ◌∙◌, subst, inl, inr, mod-eq_of_lt, add-one, arith}
use lib.Count.{ones, ones_step, ones_cat}
use lib.ListN.{length-replicate}
use Rattle.std.proofs.lemmas.Nat.{mod_below, pow_pos, shr_split}
use Rattle.std.proofs.lemmas.Bool.{cases_lt, cases_eq, eqb-true, eq-eqb}
use Rattle.calendars.specs.Places.{opens, Counted}
use Rattle.calendars.proofs.Bits.{ones_below_more, ones_below_none}
use Rattle.calendars.proofs.Opens.{opens_none, opens_more}
use Rattle.jobs.specs.declared.terms.Seat.{Seat}
use Rattle.drawing.specs.Slots.{board_by, Numbered}
use Rattle.drawing.specs.Seats.{SeatAt, open_at, open_before}
use Rattle.drawing.proofs.Slots.{in_slot, below_slot}

module _ (mask : ℕ → ℕ) (counts : List ℕ) (long : length counts ≡ 1025) (h : (s : ℕ) → s ≤ 1024 → get_or counts s 0 ≡ opens mask s) where
  pub count_more : (s : ℕ) → s < 1024 → get_or counts (s + 1) 0 ≡ get_or counts s 0 + ones (mask s)
  count_more s l = let a = h s (omega arith) in let b = h (s + 1) (omega arith) in let c = opens_more mask s in omega arith

  pub numbered_from : Numbered counts
  numbered_from = record {
    long = long;
    none = h 0 (omega arith) ∙ opens_none mask;
    rises = λ s l. let e = count_more s l in omega arith;
  }

-- a new table of 1,025 entries is filled
pub counted : (mask : ℕ → ℕ) (after : List ℕ) (r : Bool) → Counted mask (replicate 1025 0) after r → (length after ≡ 1025) × ((s : ℕ) → s ≤ 1024 → get_or after s 0 ≡ opens mask s)
counted mask after true h = (h.1, h.2)
counted mask after false h = absurd (h.0 (length-replicate {A = ℕ} 1025 0))

opens_next : (mask : ℕ → ℕ) (s : ℕ) → opens mask (suc s) ≡ opens mask s + ones (mask s)
opens_next mask s = subst (λ n. opens mask n ≡ opens mask s + ones (mask s)) (add-one s) (opens_more mask s)

-- a set bit is one more
ones_above : (m b : ℕ) → m / 2 ^ b % 2 ≡ 1 → ones (m % 2 ^ b) < ones m
ones_above m b h =
    let e : ones m ≡ ones (m / 2 ^ b) + ones (m % 2 ^ b) = ap ones (sym (shr_split m b)) ∙ ones_cat b (m / 2 ^ b) (m % 2 ^ b) (mod_below m (2 ^ b) (pow_pos b)) in
    let f = ones_step (m / 2 ^ b) in
    omega arith

ones_next : (m l : ℕ) → ones (m % 2 ^ suc l) ≡ m / 2 ^ l % 2 + ones (m % 2 ^ l)
ones_next m l = subst (λ y. ones (m % 2 ^ y) ≡ m / 2 ^ l % 2 + ones (m % 2 ^ l)) (add-one l) (ones_below_more m l)

ones_up : (m k l : ℕ) → k ≤ l → ones (m % 2 ^ k) ≤ ones (m % 2 ^ l)
ones_up m k zero h = let z : k ≡ 0 = omega arith in subst (λ y. ones (m % 2 ^ y) ≤ ones (m % 2 ^ 0)) (sym z) (omega arith)
ones_up m k (suc l) h =
    elim (cases_eq k (suc l)) [
      | inl e ↦ subst (λ y. ones (m % 2 ^ y) ≤ ones (m % 2 ^ suc l)) (sym e) (omega arith)
      | inr e ↦ (let i = ones_up m k l (omega arith) in let s = ones_next m l in omega arith)
    ]

ones_lt : (m k l : ℕ) → k < l → m / 2 ^ k % 2 ≡ 1 → ones (m % 2 ^ k) < ones (m % 2 ^ l)
ones_lt m k l h bit = let s = ones_below_more m k in let u = ones_up m (k + 1) l (omega arith) in omega arith

-- the set bit below j that has q set bits below it
bit_at : (m j q : ℕ) → q < ones (m % 2 ^ j) → (k : ℕ) × (k < j) × (m / 2 ^ k % 2 ≡ 1) × (ones (m % 2 ^ k) ≡ q)
bit_at m zero q h = absurd (let z = ones_below_none m in omega arith)
bit_at m (suc j) q h =
    let s = ones_next m j in
    elim (cases_lt q (ones (m % 2 ^ j))) [
      | inl l ↦ (let w = bit_at m j q l in (w.0, let x = w.1 in omega arith, w.2, w.3))
      | inr l ↦ (j, omega arith, omega arith, omega arith)
    ]

-- the slot of a seat is the slot of its place
seat_slot : (mask : ℕ → ℕ) (counts : List ℕ) → length counts ≡ 1025 → ((s : ℕ) → s ≤ 1024 → get_or counts s 0 ≡ opens mask s) →
    (p : ℕ) (seat : Seat) → SeatAt mask p seat → (board_by counts).slot p ≡ seat.slot
seat_slot mask counts long h p seat a =
    let c = numbered_from mask counts long h in
    let l = a.slot in
    let e = h seat.slot (omega arith) in
    let n = count_more mask counts long h seat.slot l in
    let o = ones_above (mask seat.slot) seat.link a.opened.1 in
    let pl = a.place in
    let up = in_slot counts c seat.slot p (omega arith) (omega arith) in
    let down = below_slot counts c (seat.slot + 1) p (omega arith) (omega arith) in
    omega arith

module _ (mask : ℕ → ℕ) (small : (s : ℕ) → mask s < 256) where
  opens_up : (a b : ℕ) → a ≤ b → opens mask a ≤ opens mask b
  opens_up a zero h = let z : a ≡ 0 = omega arith in subst (λ y. opens mask y ≤ opens mask 0) (sym z) (omega arith)
  opens_up a (suc b) h =
      elim (cases_eq a (suc b)) [
        | inl e ↦ subst (λ y. opens mask y ≤ opens mask (suc b)) (sym e) (omega arith)
        | inr e ↦ (let i = opens_up a b (omega arith) in let n = opens_next mask b in omega arith)
      ]

  bit_set : (w : ℕ) → open_at mask w ≡ true → mask (w / 8) / 2 ^ (w % 8) % 2 ≡ 1
  bit_set w h = eqb-true (mask (w / 8) / 2 ^ (w % 8) % 2) 1 h

  place_below : (w : ℕ) → open_at mask w ≡ true → open_before mask w < opens mask (w / 8 + 1)
  place_below w f = let o = ones_above (mask (w / 8)) (w % 8) (bit_set w f) in let m = opens_more mask (w / 8) in omega arith

  pub place_into : (n whole w : ℕ) → whole ≡ opens mask n → w / 8 < n → open_at mask w ≡ true → open_before mask w < whole
  place_into n whole w e l f = let b = place_below w f in let u = opens_up (w / 8 + 1) n (omega arith) in omega arith

  pub place_rises : (v w : ℕ) → v < w → open_at mask v ≡ true → open_before mask v < open_before mask w
  place_rises v w l f =
      elim (cases_lt (v / 8) (w / 8)) [
        | inl h ↦ (let b = place_below v f in let u = opens_up (v / 8 + 1) (w / 8) (omega arith) in omega arith)
        | inr h ↦
            (let e : v / 8 ≡ w / 8 = omega arith in
            let o = ones_lt (mask (v / 8)) (v % 8) (w % 8) (omega arith) (bit_set v f) in
            subst (λ y. open_before mask v < opens mask y + ones (mask y % 2 ^ (w % 8))) e (omega arith))
      ]

  slot_at : (n p : ℕ) → p < opens mask n → (s : ℕ) × (s < n) × (opens mask s ≤ p) × (p < opens mask (s + 1))
  slot_at zero p h = absurd (let e = opens_none mask in omega arith)
  slot_at (suc n) p h =
      elim (cases_lt p (opens mask n)) [
        | inl l ↦ (let w = slot_at n p l in (w.0, let x = w.1 in omega arith, w.2, w.3))
        | inr l ↦ (n, omega arith, l, subst (λ y. p < opens mask y) (sym (add-one n)) h)
      ]

  pub link_in : (s k p : ℕ) → k < 8 → mask s / 2 ^ k % 2 ≡ 1 → opens mask s + ones (mask s % 2 ^ k) ≡ p →
      (open_at mask (s * 8 + k) ≡ true) × (open_before mask (s * 8 + k) ≡ p)
  link_in s k p l bit e =
      let d : s ≡ (s * 8 + k) / 8 = omega arith in
      let r : k ≡ (s * 8 + k) % 8 = omega arith in (
        eq-eqb (mask ((s * 8 + k) / 8) / 2 ^ ((s * 8 + k) % 8) % 2) 1 (subst (λ y. mask y / 2 ^ ((s * 8 + k) % 8) % 2 ≡ 1) d (subst (λ y. mask s / 2 ^ y % 2 ≡ 1) r bit)),
        subst (λ y. opens mask y + ones (mask y % 2 ^ ((s * 8 + k) % 8)) ≡ p) d (subst (λ y. opens mask s + ones (mask s % 2 ^ y) ≡ p) r e),
      )

  pub place_onto : (n whole p : ℕ) → whole ≡ opens mask n → p < whole → (w : ℕ) × (w < n * 8) × (open_at mask w ≡ true) × (open_before mask w ≡ p)
  place_onto n whole p e l =
      let a = slot_at n p (omega arith) in
      let s = a.0 in
      let up = a.2 in
      let down = a.3 in
      let below = a.1 in
      let more = opens_more mask s in
      let all : mask s % 2 ^ 8 ≡ mask s = mod-eq_of_lt (small s) in
      let same : ones (mask s % 2 ^ 8) ≡ ones (mask s) = ap ones all in
      let b = bit_at (mask s) 8 (p - opens mask s) (omega arith) in
      let k = b.1 in
      let o = b.3 in
      let z = link_in s b.0 p k b.2 (omega arith) in
      (s * 8 + b.0, omega arith, z.0, z.1)

  pub place_slot : (counts : List ℕ) → length counts ≡ 1025 → ((s : ℕ) → s ≤ 1024 → get_or counts s 0 ≡ opens mask s) →
      (w : ℕ) → w / 8 < 1024 → open_at mask w ≡ true → (board_by counts).slot (open_before mask w) ≡ w / 8
  place_slot counts long h w l f =
      seat_slot mask counts long h (open_before mask w) (record { slot = w / 8; link = w % 8 })
      (record { slot = l; opened = (omega arith, bit_set w f); place = refl })
