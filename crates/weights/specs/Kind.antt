-- What the two traits say of a kind of weight. Assumes nothing.
--   Octets bs                      each number of bs is a byte
--   Agrees no_lighter plus over    adding the heavier of two weights never gives the lighter total
use Rattle.std.specs.Prelude.{◌≡◌, ℕ, ◌<◌, Bool, true, List, [], ◌∷◌}

abbrev pub Octets : List ℕ → Type 0
Octets [] = Unit {0}
Octets (b ∷ bs) = (b < 256) × Octets bs

abbrev pub Agrees : {W X : Type 0} → (W → W → Bool) → (X → W → X) → (X → X → Bool) → Type 0
Agrees {W} {X} no_lighter plus over = (t : X) (a b : W) → no_lighter a b ≡ true → over (plus t a) (plus t b) ≡ true
