-- Classed weights as a kind: the higher class is heavier, then more points; a total is a sum for each class. Assumes nothing.
--   classed_encoding w        the class's level in a byte, then the points in two
--   classed_no_lighter v w    v is of a higher class than w, or of the same class with at least as many points
--   lex_at_least xs ys        where xs and ys first differ, xs has the greater
--   added_at xs i n           the list xs with n added at place i
--   Each32 xs                 32 bits hold each of xs
--   classed_nothing           five sums of none, from class D down
--   classed_plus t w          the sums t with the points of w added to its class
--   classed_over s t          the sums s are at least t, compared from class D down
--   classed_fits t            32 bits hold each sum
use Rattle.std.specs.Prelude.{ℕ, zero, suc, ◌+◌, ◌-◌, ◌^◌, ◌<◌, Bool, true, false, cond, List, [], ◌∷◌, ◌==◌, nat_le, nat_lt}
use Rattle.kinds.specs.Bytes.{high_first}
use Rattle.kinds.specs.ClassLevels.{class_level}
use Rattle.kinds.specs.declared.classed.Classed.{Classed}
use Rattle.kinds.specs.declared.classed.ClassedTotal.{ClassedTotal}

abbrev pub classed_encoding : Classed → List ℕ
classed_encoding w = class_level w.class ∷ high_first 2 w.points

abbrev pub classed_no_lighter : Classed → Classed → Bool
classed_no_lighter v w =
    cond (class_level v.class == class_level w.class) (nat_le w.points v.points) (nat_lt (class_level w.class) (class_level v.class))

abbrev pub lex_at_least : List ℕ → List ℕ → Bool
lex_at_least [] [] = true
lex_at_least [] (y ∷ ys) = false
lex_at_least (x ∷ xs) [] = true
lex_at_least (x ∷ xs) (y ∷ ys) = cond (x == y) (lex_at_least xs ys) (nat_lt y x)

abbrev pub added_at : List ℕ → ℕ → ℕ → List ℕ
added_at [] i n = []
added_at (x ∷ xs) zero n = (x + n) ∷ xs
added_at (x ∷ xs) (suc i) n = x ∷ added_at xs i n

abbrev pub Each32 : List ℕ → Type 0
Each32 [] = Unit {0}
Each32 (x ∷ xs) = (x < 2 ^ 32) × Each32 xs

abbrev pub classed_nothing : ClassedTotal
classed_nothing = record { sums = 0 ∷ 0 ∷ 0 ∷ 0 ∷ 0 ∷ [] }

abbrev pub classed_plus : ClassedTotal → Classed → ClassedTotal
classed_plus t w = record { sums = added_at t.sums (4 - class_level w.class) w.points }

abbrev pub classed_over : ClassedTotal → ClassedTotal → Bool
classed_over s t = lex_at_least s.sums t.sums

abbrev pub classed_fits : ClassedTotal → Type 0
classed_fits t = Each32 t.sums
