-- Lists of sums: compared from the first on, one of them raised, and how large they get.
use Rattle.std.specs.Prelude.{◌≡◌, ℕ, zero, suc, ◌+◌, ◌^◌, ◌<◌, ◌≤◌, true, ◌⊎◌, List, [], ◌∷◌, length, drop, ◌≢◌, nat_lt, slice_index, slice_set, refl}
use Rattle.std.proofs.Common.{ap, inl, inr, arith}
use Rattle.std.proofs.lemmas.List.{drop_more, drop_all}
use Rattle.std.proofs.lemmas.Bool.Decides.{nat_tests}
use Rattle.std.proofs.lemmas.Bool.{eq-eqb, ne_eqb}
use Rattle.kinds.specs.ClassedKind.{lex_at_least, added_at, Each32}

pub lex_total : (xs ys : List ℕ) → (lex_at_least xs ys ≡ true) ⊎ (lex_at_least ys xs ≡ true)
lex_total [] [] = inl refl
lex_total [] (y ∷ ys) = inr refl
lex_total (x ∷ xs) [] = inl refl
lex_total (x ∷ xs) (y ∷ ys) = let h = lex_total xs ys in grind (arith, nat_tests)

pub lex_trans : (xs ys zs : List ℕ) → lex_at_least xs ys ≡ true → lex_at_least ys zs ≡ true → lex_at_least xs zs ≡ true
lex_trans [] [] [] p q = refl
lex_trans [] [] (z ∷ zs) p q = q
lex_trans [] (y ∷ ys) [] p q = refl
lex_trans [] (y ∷ ys) (z ∷ zs) p q = p
lex_trans (x ∷ xs) [] [] p q = refl
lex_trans (x ∷ xs) [] (z ∷ zs) p q = let w : ◌≡◌ {A = ℕ} 0 1 = cc in absurd (omega arith)
lex_trans (x ∷ xs) (y ∷ ys) [] p q = refl
lex_trans (x ∷ xs) (y ∷ ys) (z ∷ zs) p q = let h = lex_trans xs ys zs in grind (arith, nat_tests)

pub lex_anti : (xs ys : List ℕ) → lex_at_least xs ys ≡ true → lex_at_least ys xs ≡ true → xs ≡ ys
lex_anti [] [] p q = refl
lex_anti [] (y ∷ ys) p q = let w : ◌≡◌ {A = ℕ} 0 1 = cc in absurd (omega arith)
lex_anti (x ∷ xs) [] p q = let w : ◌≡◌ {A = ℕ} 0 1 = cc in absurd (omega arith)
lex_anti (x ∷ xs) (y ∷ ys) p q = let h = lex_anti xs ys in grind (arith, nat_tests)

pub add_comm_at : (xs : List ℕ) (i j p q : ℕ) → added_at (added_at xs i p) j q ≡ added_at (added_at xs j q) i p
add_comm_at [] i j p q = refl
add_comm_at (x ∷ xs) zero zero p q = ap (λ n. n ∷ xs) (omega arith)
add_comm_at (x ∷ xs) zero (suc j) p q = refl
add_comm_at (x ∷ xs) (suc i) zero p q = refl
add_comm_at (x ∷ xs) (suc i) (suc j) p q = ap (λ ys. x ∷ ys) (add_comm_at xs i j p q)

pub lex_refl : (xs : List ℕ) → lex_at_least xs xs ≡ true
lex_refl [] = refl
lex_refl (x ∷ xs) = let h = lex_refl xs in grind (arith, nat_tests)

pub add_keeps : (xs ys : List ℕ) (i p : ℕ) → lex_at_least xs ys ≡ true → lex_at_least (added_at xs i p) (added_at ys i p) ≡ true
add_keeps [] [] i p e = refl
add_keeps [] (y ∷ ys) i p e = let w : ◌≡◌ {A = ℕ} 0 1 = cc in absurd (omega arith)
add_keeps (x ∷ xs) [] zero p e = refl
add_keeps (x ∷ xs) [] (suc i) p e = refl
add_keeps (x ∷ xs) (y ∷ ys) zero p e = grind (arith, nat_tests)
add_keeps (x ∷ xs) (y ∷ ys) (suc i) p e = let h = add_keeps xs ys i p in grind (arith, nat_tests)

pub add_grows : (xs : List ℕ) (i p : ℕ) → lex_at_least (added_at xs i p) xs ≡ true
add_grows [] i p = refl
add_grows (x ∷ xs) zero p = let h = lex_refl xs in grind (arith, nat_tests)
add_grows (x ∷ xs) (suc i) p = let h = add_grows xs i p in grind (arith, nat_tests)

-- more at the same place
pub add_more : (xs : List ℕ) (i p q : ℕ) → q ≤ p → lex_at_least (added_at xs i p) (added_at xs i q) ≡ true
add_more [] i p q h = refl
add_more (x ∷ xs) zero p q h = let r = lex_refl xs in grind (arith, nat_tests)
add_more (x ∷ xs) (suc i) p q h = let r = add_more xs i p q h in grind (arith, nat_tests)

-- a place before
pub add_before : (xs : List ℕ) (i j p q : ℕ) → i < j → 1 ≤ p → lex_at_least (added_at xs i p) (added_at xs j q) ≡ true
add_before [] i j p q h k = refl
add_before (x ∷ xs) zero zero p q h k = absurd (omega arith)
add_before (x ∷ xs) zero (suc j) p q h k = grind (arith, nat_tests)
add_before (x ∷ xs) (suc i) zero p q h k = absurd (omega arith)
add_before (x ∷ xs) (suc i) (suc j) p q h k = let r = add_before xs i j p q (omega arith) k in grind (arith, nat_tests)

pub added_at_set : (xs : List ℕ) (i p : ℕ) → added_at xs i p ≡ slice_set xs i (slice_index xs i + p)
added_at_set [] i p = refl
added_at_set (x ∷ xs) zero p = refl
added_at_set (x ∷ xs) (suc i) p = ap (λ ys. x ∷ ys) (added_at_set xs i p)

abbrev pub AtMost : ℕ → List ℕ → Type 0
AtMost m [] = Unit {0}
AtMost m (x ∷ xs) = (x ≤ m) × AtMost m xs

pub at_most_wider : (m n : ℕ) (xs : List ℕ) → m ≤ n → AtMost m xs → AtMost n xs
at_most_wider m n [] h a = tt
at_most_wider m n (x ∷ xs) h a = (omega arith, at_most_wider m n xs h a.1)

pub at_most_add : (m : ℕ) (xs : List ℕ) (i p q : ℕ) → p ≤ q → AtMost m xs → AtMost (m + q) (added_at xs i p)
at_most_add m [] i p q h a = tt
at_most_add m (x ∷ xs) zero p q h a = (omega arith, at_most_wider m (m + q) xs (omega arith) a.1)
at_most_add m (x ∷ xs) (suc i) p q h a = (omega arith, at_most_add m xs i p q h a.1)

pub each32_from_at_most : (m : ℕ) (xs : List ℕ) → m < 2 ^ 32 → AtMost m xs → Each32 xs
each32_from_at_most m [] h a = tt
each32_from_at_most m (x ∷ xs) h a = (omega arith, each32_from_at_most m xs h a.1)

pub each32_at : (xs : List ℕ) (i p : ℕ) → i < length xs → Each32 (added_at xs i p) → slice_index xs i + p < 2 ^ 32
each32_at [] i p h b = absurd (omega arith)
each32_at (x ∷ xs) zero p h b = b.0
each32_at (x ∷ xs) (suc i) p h b = each32_at xs i p (omega arith) b.1

-- a loop that compares place by place
pub lex_more : (xs ys : List ℕ) (i : ℕ) → i < length xs → i < length ys → slice_index xs i ≡ slice_index ys i → lex_at_least (drop i xs) (drop i ys) ≡ lex_at_least (drop (i + 1) xs) (drop (i + 1) ys)
lex_more xs ys i h k e = rw (drop_more xs i 0 h, drop_more ys i 0 k, eq-eqb (slice_index xs i) (slice_index ys i) e)

pub lex_here : (xs ys : List ℕ) (i : ℕ) → i < length xs → i < length ys → (slice_index xs i ≢ slice_index ys i) → lex_at_least (drop i xs) (drop i ys) ≡ nat_lt (slice_index ys i) (slice_index xs i)
lex_here xs ys i h k n = rw (drop_more xs i 0 h, drop_more ys i 0 k, ne_eqb (slice_index xs i) (slice_index ys i) n) (grind (arith, nat_tests))

pub lex_all : (xs ys : List ℕ) (i : ℕ) → length xs ≤ i → length ys ≤ i → lex_at_least (drop i xs) (drop i ys) ≡ true
lex_all xs ys i h k = rw (drop_all i xs h, drop_all i ys k)
