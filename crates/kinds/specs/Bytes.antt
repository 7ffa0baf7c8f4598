-- Numbers in bytes. Assumes nothing.
--   high_first k n    the number n in k bytes, the high byte first
use Rattle.std.specs.Prelude.{ℕ, zero, suc, ◌/◌, ◌%◌, List, [], ◌∷◌, ◌++◌}

abbrev pub high_first : ℕ → ℕ → List ℕ
high_first zero n = []
high_first (suc k) n = high_first k (n / 256) ++ (n % 256 ∷ [])
