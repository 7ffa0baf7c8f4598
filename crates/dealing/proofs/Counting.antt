-- Counts, injections and bounded searches. Assumes nothing.
--   without q j      what passes q, but for j
--   inject           a set that a relation takes into another, no two numbers to the same, is no larger
--   any_below        a number below the bound that passes, or none does
--   last_below       one past the last that passes, or 0
--   find t n d       the last below n that passes, or d
use Rattle.std.proofs.Common.{◌≡◌, ℕ, zero, suc, ◌<◌, ◌≤◌, Bool, true, false, cond, not, ◌&&◌, eqb, ◌⊎◌, sym, refl, ap, ◌∙◌, subst, inl, inr, arith}
use Rattle.std.proofs.lemmas.Bool.{cases_Bool, cases_eq, both_ways}
use Rattle.std.proofs.lemmas.Bool.Decides.{nat_tests}
use Rattle.dealing.specs.Counting.{one, count, Injection}

abbrev pub without : (ℕ → Bool) → ℕ → ℕ → Bool
without q j x = q x && not (eqb x j)

pub count_same : (p q : ℕ → Bool) (n : ℕ) → ((i : ℕ) → i < n → p i ≡ q i) → count p n ≡ count q n
count_same p q zero h = refl
count_same p q (suc n) h =
    let ih = count_same p q n (λ i lt. h i (omega arith)) in
    let e = ap one (h n (omega arith)) in
    omega arith

without_other : (q : ℕ → Bool) (j x : ℕ) → (x ≡ j → ⊥) → without q j x ≡ q x
without_other q j x h = grind (arith, nat_tests)

without_same : (q : ℕ → Bool) (j : ℕ) → without q j j ≡ false
without_same q j = grind (arith, nat_tests)

pub without_true : (q : ℕ → Bool) (j x : ℕ) → q x ≡ true → (x ≡ j → ⊥) → without q j x ≡ true
without_true q j x e h = grind (arith, nat_tests)

pub count_without : (q : ℕ → Bool) (j m : ℕ) → j < m → q j ≡ true → count q m ≡ suc (count (without q j) m)
count_without q j zero lt e = absurd (omega arith)
count_without q j (suc m) lt e =
    elim (cases_eq j m) [
      | inl s ↦
          (let c = count_same (without q j) q m (λ i l. without_other q j i (omega arith)) in
          let o : one (q m) ≡ 1 = ap one (subst (λ x. q x ≡ true) s e) in
          let z : one (without q j m) ≡ 0 = ap one (subst (λ x. without q j x ≡ false) s (without_same q j)) in
          omega arith)
      | inr s ↦
          (let ih = count_without q j m (omega arith) e in
          let o = ap one (without_other q j m (λ t. s (sym t))) in
          omega arith)
    ]

-- a relation that takes each number of one set to one of the other, and no two to the same
pub inject : (n : ℕ) (p : ℕ → Bool) (m : ℕ) (q : ℕ → Bool) (Rel : ℕ → ℕ → Type 0) →
    ((i : ℕ) → i < n → p i ≡ true → (j : ℕ) × (j < m) × (q j ≡ true) × Rel i j) →
    ((i k j : ℕ) → Rel i j → Rel k j → i ≡ k) →
    count p n ≤ count q m
inject zero p m q Rel to inj = omega arith
inject (suc n) p m q Rel to inj =
    elim (cases_Bool (p n)) [
      | inl e ↦
          (let t = to n (omega arith) e in
          let ih = inject n p m (without q t.0) Rel
          (λ i lt pi.
          let u = to i (omega arith) pi in
          (u.0, u.1, without_true q t.0 u.0 u.2 (λ s. let z : i ≡ n = inj i n t.0 (subst (Rel i) s u.3) t.3 in omega arith), u.3))
          inj in
          let c = count_without q t.0 m t.1 t.2 in
          let o = ap one e in
          omega arith)
      | inr e ↦
          (let ih = inject n p m q Rel (λ i lt pi. to i (omega arith) pi) inj in
          let o = ap one e in omega arith)
    ]

pub injection : Injection
injection n p m q f to inj =
    inject n p m q (λ i j. (i < n) × (p i ≡ true) × (f i ≡ j))
    (λ i lt e. (f i, (to i lt e).0, (to i lt e).1, (lt, e, refl)))
    (λ i k j x y. inj i k x.0 y.0 x.1 y.1 (x.2 ∙ sym y.2))

-- each number that passes p passes q
pub count_mono : (p q : ℕ → Bool) (n : ℕ) → ((i : ℕ) → i < n → p i ≡ true → q i ≡ true) → count p n ≤ count q n
count_mono p q n h = inject n p n q (λ i j. i ≡ j) (λ i lt e. (i, lt, h i lt e, refl)) (λ i k j x y. x ∙ sym y)

-- a number below n that passes, or none does
pub any_below : (t : ℕ → Bool) (n : ℕ) → ((i : ℕ) × (i < n) × (t i ≡ true)) ⊎ ((i : ℕ) → i < n → t i ≡ false)
any_below t zero = inr (λ i lt. absurd (omega arith))
any_below t (suc n) =
    elim (cases_Bool (t n)) [
      | inl e ↦ inl (n, omega arith, e)
      | inr e ↦ elim (any_below t n) [
        | inl w ↦ inl (w.0, omega arith, w.2)
        | inr w ↦ inr (λ i lt. elim (cases_eq i n) [ inl s ↦ subst (λ x. t x ≡ false) (sym s) e | inr s ↦ w i (omega arith) ])
      ]
    ]

-- one past the last that passes, or 0
pub last_below : (t : ℕ → Bool) (n : ℕ) → (a : ℕ) × (a ≤ n) × ((i : ℕ) → a ≤ i → i < n → t i ≡ false) × ((b : ℕ) → a ≡ suc b → t b ≡ true)
last_below t zero = (0, omega arith, λ i l h. absurd (omega arith), λ b e. absurd (omega arith))
last_below t (suc n) =
    elim (cases_Bool (t n)) [
      | inl e ↦ (suc n, omega arith, (λ i l h. absurd (omega arith)), (λ b s. subst (λ x. t x ≡ true) (omega arith) e))
      | inr e ↦
          (let w = last_below t n in
          (w.0, omega arith, (λ i l h. elim (cases_eq i n) [ inl s ↦ subst (λ x. t x ≡ false) (sym s) e | inr s ↦ w.2 i l (omega arith) ]), w.3))
    ]

-- the last below n that passes, or d
abbrev pub find : (ℕ → Bool) → ℕ → ℕ → ℕ
find t zero d = d
find t (suc n) d = cond (t n) n (find t n d)

pub find_cases : (t : ℕ → Bool) (n d : ℕ) → ((find t n d < n) × (t (find t n d) ≡ true)) ⊎ ((find t n d ≡ d) × ((i : ℕ) → i < n → t i ≡ false))
find_cases t zero d = inr (refl, λ i l. absurd (omega arith))
find_cases t (suc n) d = go (t n) refl (find_cases t n d)
  where
    go : (v : Bool) → t n ≡ v → ((find t n d < n) × (t (find t n d) ≡ true)) ⊎ ((find t n d ≡ d) × ((i : ℕ) → i < n → t i ≡ false)) →
        ((cond v n (find t n d) < suc n) × (t (cond v n (find t n d)) ≡ true)) ⊎ ((cond v n (find t n d) ≡ d) × ((i : ℕ) → i < suc n → t i ≡ false))
    go true e ih = inl (omega arith, e)
    go false e (inl w) = inl (omega arith, w.1)
    go false e (inr w) = inr (w.0, λ i l. elim (cases_eq i n) [ inl z ↦ subst (λ x. t x ≡ false) (sym z) e | inr z ↦ w.1 i (omega arith) ])

pub find_passes : (t : ℕ → Bool) (n d q : ℕ) → q < n → t q ≡ true → (find t n d < n) × (t (find t n d) ≡ true)
find_passes t n d q l e = elim (find_cases t n d) [ inl w ↦ w | inr w ↦ absurd (both_ways (t q) (w.1 q l) e) ]
