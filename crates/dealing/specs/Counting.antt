-- How many of the numbers below a bound pass a test. Assumes nothing.
--   one b            1 for true, 0 for false
--   count p n        how many of the numbers below n pass p
--   Injection        a set that goes into another, no two numbers to the same, is no larger
use Rattle.std.specs.Prelude.{◌≡◌, ℕ, zero, suc, ◌+◌, ◌<◌, ◌≤◌, Bool, true, false}

abbrev pub one : Bool → ℕ
one true = 1
one false = 0

abbrev pub count : (ℕ → Bool) → ℕ → ℕ
count p zero = 0
count p (suc n) = count p n + one (p n)

abbrev pub Injection : Type 0
Injection = (n : ℕ) (p : ℕ → Bool) (m : ℕ) (q : ℕ → Bool) (f : ℕ → ℕ) →
    ((i : ℕ) → i < n → p i ≡ true → (f i < m) × (q (f i) ≡ true)) →
    ((i k : ℕ) → i < n → k < n → p i ≡ true → p k ≡ true → f i ≡ f k → i ≡ k) →
    count p n ≤ count q m
