-- Slots and counts: where a place lies, by how many places lie before it. Assumes nothing.
use Rattle.std.proofs.Common.{◌≡◌, ℕ, zero, suc, ◌<◌, ◌≤◌, Bool, true, false, leb, List, get_or, sym, refl, ap, subst, inl, inr, add-one, arith}
use Rattle.std.proofs.lemmas.Bool.{cases_eq, le-leb, lt-leb}
use Rattle.dealing.specs.Counting.{one, count}
use Rattle.drawing.specs.Slots.{slot_by, board_by, Numbered}

one_le : (b : Bool) → one b ≤ 1
one_le true = omega arith
one_le false = omega arith

count_le : (q : ℕ → Bool) (n : ℕ) → count q n ≤ n
count_le q zero = omega arith
count_le q (suc n) = let h = count_le q n in let k = one_le (q n) in omega arith

count_up : (q : ℕ → Bool) (m n : ℕ) → m ≤ n → count q m ≤ count q n
count_up q m zero h = let z : m ≡ 0 = omega arith in subst (λ y. count q y ≤ count q 0) (sym z) (omega arith)
count_up q m (suc n) h =
    elim (cases_eq m (suc n)) [
      | inl e ↦ subst (λ y. count q y ≤ count q (suc n)) (sym e) (omega arith)
      | inr e ↦ (let i = count_up q m n (omega arith) in omega arith)
    ]

count_all : (q : ℕ → Bool) (m : ℕ) → ((i : ℕ) → i < m → q i ≡ true) → count q m ≡ m
count_all q zero h = refl
count_all q (suc m) h = let i = count_all q m (λ i l. h i (omega arith)) in let e : one (q m) ≡ 1 = ap one (h m (omega arith)) in omega arith

count_stop : (q : ℕ → Bool) (m n : ℕ) → m ≤ n → ((i : ℕ) → m ≤ i → i < n → q i ≡ false) → count q n ≤ m
count_stop q m zero h k = omega arith
count_stop q m (suc n) h k =
    elim (cases_eq m (suc n)) [
      | inl e ↦ subst (λ y. count q (suc n) ≤ y) (sym e) (count_le q (suc n))
      | inr e ↦ (let i = count_stop q m n (omega arith) (λ i l w. k i l (omega arith)) in let z : one (q n) ≡ 0 = ap one (k n (omega arith) (omega arith)) in omega arith)
    ]

module _ (counts : ℕ → ℕ) (n : ℕ) (rises : (s : ℕ) → s < n → counts s ≤ counts (suc s)) where
  rise : (a b : ℕ) → a ≤ b → b ≤ n → counts a ≤ counts b
  rise a zero l m = let z : a ≡ 0 = omega arith in subst (λ y. counts y ≤ counts 0) (sym z) (omega arith)
  rise a (suc b) l m =
      elim (cases_eq a (suc b)) [
        | inl e ↦ subst (λ y. counts y ≤ counts (suc b)) (sym e) (omega arith)
        | inr e ↦ (let i = rise a b (omega arith) (omega arith) in let j = rises b (omega arith) in omega arith)
      ]

  slot_from : (s p : ℕ) → s ≤ n → counts s ≤ p → s ≤ slot_by counts n p
  unfolding slot_by
  slot_from s p l h =
      let a = count_all (λ s. leb (counts (suc s)) p) s (λ i k. le-leb (counts (suc i)) p (let r = rise (suc i) s k l in omega arith)) in
      let u = count_up (λ s. leb (counts (suc s)) p) s n l in
      omega arith

  slot_below : (s p : ℕ) → s ≤ n → counts 0 ≡ 0 → p < counts s → slot_by counts n p < s
  unfolding slot_by
  slot_below zero p l z h = absurd (omega arith)
  slot_below (suc s) p l z h =
      let c = count_stop (λ s. leb (counts (suc s)) p) s n (omega arith) (λ i k m. lt-leb (counts (suc i)) p (let r = rise (suc s) (suc i) (omega arith) m in omega arith)) in
      omega arith

module _ (counts : List ℕ) (c : Numbered counts) where
  abbrev upto : ℕ → ℕ
  upto s = get_or counts s 0

  steps : (s : ℕ) → s < 1024 → upto s ≤ upto (suc s)
  steps s h = subst (λ y. upto s ≤ upto y) (add-one s) (c.rises s h)

  pub counts_rise : (a b : ℕ) → a ≤ b → b ≤ 1024 → upto a ≤ upto b
  counts_rise = rise upto 1024 steps

  pub in_slot : (s p : ℕ) → s ≤ 1024 → upto s ≤ p → s ≤ (board_by counts).slot p
  in_slot = slot_from upto 1024 steps

  pub below_slot : (s p : ℕ) → s ≤ 1024 → p < upto s → (board_by counts).slot p < s
  below_slot s p l h = slot_below upto 1024 steps s p l c.none h
