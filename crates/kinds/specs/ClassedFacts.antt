-- Classed weights by their parts, and the bound of their sums.
use Rattle.std.specs.Prelude.{◌≡◌, ℕ, zero, suc, ◌+◌, ◌-◌, ◌*◌, ◌^◌, ◌<◌, ◌≤◌, true, List, [], ◌∷◌, length, drop, fold, slice_index, refl}
use Rattle.std.proofs.Common.{sym, ap, ◌∙◌, ⊎_elim, arith}
use mathlib.Core.HLevel.{is_prop→PathP}
use Rattle.std.proofs.Math.Bridge.{le_prop}
use Rattle.std.proofs.lemmas.Bool.{cases_order}
use Rattle.std.proofs.lemmas.Bool.Decides.{nat_tests}
use Rattle.weights.specs.Kind.{Agrees}
use Rattle.kinds.specs.declared.class.Class.{Class}
use Rattle.kinds.specs.declared.class.Class.TheVariants.{Qm, A, B, C, D}
use Rattle.kinds.specs.declared.classed.Classed.{Classed}
use Rattle.kinds.specs.declared.classed.ClassedTotal.{ClassedTotal}
use Rattle.kinds.specs.Bytes.{high_first}
use Rattle.kinds.specs.ClassLevels.{class_level}
use Rattle.kinds.specs.ClassedKind.{classed_no_lighter, classed_plus, classed_over, classed_fits, classed_nothing, lex_at_least, added_at}
use Rattle.kinds.specs.HighFirst.{high_first_injective, high_first_read, spelled}
use Rattle.kinds.specs.Sums.{AtMost, at_most_add, at_most_wider, each32_from_at_most, add_more, add_before}

pub level_le : (c : Class) → class_level c ≤ 4
level_le Qm = omega arith
level_le A = omega arith
level_le B = omega arith
level_le C = omega arith
level_le D = omega arith

abbrev class_at : ℕ → Class
class_at zero = Qm
class_at (suc zero) = A
class_at (suc (suc zero)) = B
class_at (suc (suc (suc zero))) = C
class_at (suc (suc (suc (suc n)))) = D

class_at_level : (c : Class) → class_at (class_level c) ≡ c
class_at_level Qm = refl
class_at_level A = refl
class_at_level B = refl
class_at_level C = refl
class_at_level D = refl

pub classed_same : (v w : Classed) → class_level v.class ≡ class_level w.class → v.points ≡ w.points → v ≡ w
classed_same v w l p =
    let c : v.class ≡ w.class = sym (class_at_level v.class) ∙ ap class_at l ∙ class_at_level w.class in
    λ j. record {
      class = c j;
      points = p j;
      ok = (is_prop→PathP (λ k. 1 ≤ p k) (λ k. le_prop) v.ok.0 w.ok.0 j, is_prop→PathP (λ k. p k ≤ 65535) (λ k. le_prop) v.ok.1 w.ok.1 j);
    }

-- equal bytes, equal numbers
pub classed_parts : (l p m q : ℕ) → p < 256 ^ 2 → q < 256 ^ 2 → l ∷ high_first 2 p ≡ m ∷ high_first 2 q → (l ≡ m) × (p ≡ q)
classed_parts l p m q hp hq e = (ap (λ xs. slice_index xs 0) e, high_first_injective 2 p q hp hq (ap (drop 1) e))

-- what three bytes write
pub classed_read : (p : ℕ) (bs : List ℕ) → length bs ≡ 3 → ((i : ℕ) → slice_index bs i < 256) → p ≡ slice_index bs 1 * 256 + slice_index bs 2 → slice_index bs 0 ∷ high_first 2 p ≡ bs
classed_read p bs h b e = ap (λ xs. slice_index bs 0 ∷ xs) (high_first_read (slice_index bs 1 ∷ slice_index bs 2 ∷ []) p (b 1, (b 2, tt)) (omega arith)) ∙ sym (spelled 3 bs h)

pub classed_agrees : Agrees classed_no_lighter classed_plus classed_over
classed_agrees t v w h =
    let l : ℕ = class_level v.class in
    let m : ℕ = class_level w.class in
    let same : l ≡ m → lex_at_least (added_at t.sums (4 - l) v.points) (added_at t.sums (4 - m) w.points) ≡ true =
    λ e. let le : w.points ≤ v.points = grind (arith, nat_tests) in
    rw e (add_more t.sums (4 - m) v.points w.points le) in
    ⊎_elim same
    (⊎_elim (λ lt. let none : ⊥ = grind (arith, nat_tests) in absurd none) (λ lt. add_before t.sums (4 - l) (4 - m) v.points w.points (let top = level_le v.class in omega arith) v.ok.0))
    (cases_order l m)

fold_at_most : (m : ℕ) (t : ClassedTotal) (ws : List Classed) → AtMost m t.sums → AtMost (m + length ws * 65535) (fold classed_plus t ws).sums
fold_at_most m t [] a = at_most_wider m (m + 0) t.sums (omega arith) a
fold_at_most m t (w ∷ ws) a =
    let h = fold_at_most (m + 65535) (classed_plus t w) ws (at_most_add m t.sums (4 - class_level w.class) w.points 65535 w.ok.1 a) in
    at_most_wider _ _ (fold classed_plus (classed_plus t w) ws).sums (omega arith) h

pub classed_room : (ws : List Classed) → length ws ≤ 256 → classed_fits (fold classed_plus classed_nothing ws)
classed_room ws h = each32_from_at_most (0 + length ws * 65535) (fold classed_plus classed_nothing ws).sums (omega arith) (fold_at_most 0 classed_nothing ws (omega arith, (omega arith, (omega arith, (omega arith, (omega arith, tt))))))
