-- The ones that are picked of a row. Assumes nothing.
--   picked_of picks xs    those of xs beside which `picks` says true, in their order
--   Counted n picks xs    n is at most 256, and there are n of both
use Rattle.std.specs.Prelude.{ℕ, ◌≤◌, Bool, cond, List, [], ◌∷◌, length}

abbrev pub picked_of : {X : Type 0} → List Bool → List X → List X
picked_of [] xs = []
picked_of (b ∷ bs) [] = []
picked_of (b ∷ bs) (x ∷ xs) = cond b (x ∷ picked_of bs xs) (picked_of bs xs)

abbrev pub Counted : {X : Type 0} → ℕ → List Bool → List X → Type 0
Counted n picks xs = (n ≤ 256) × (n ≤ length picks) × (n ≤ length xs)
