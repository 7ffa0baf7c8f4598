-- Weights as a script writes them: None where the text has not the kind's form, Some None where it is out of range, and else the
-- figures of the weight. Assumes nothing.
--   and_then o f              what f makes of what is there
--   points_in text            points: a number
--   classed_in text           classed: a class, a colon and a number
--   share_in text             a share: a number, a stroke and a number
--   points_figures w ..       the figures of a weight, by which it is the only one
--   answer_figures figures    the figures of a weight that was read, or None where it was out of range
use Rattle.std.specs.Prelude.{ℕ, cond, ◌||◌, List, [], ◌∷◌, Some, None, Ok, Err, codes, Option, Result, ◌==◌}
use Rattle.std.specs.Str.{bytes_eq}
use Rattle.kinds.specs.declared.points.Points.{Points}
use Rattle.kinds.specs.declared.classed.Classed.{Classed}
use Rattle.kinds.specs.declared.share.Share.{Share}
use Rattle.kinds.specs.ClassLevels.{class_level}
use Rattle.weights.specs.declared.fault.WeightFault.{WeightFault}
use Rattle.account.specs.Numbers.{number_of}
use Rattle.account.specs.Words.{cut_at}

abbrev pub and_then : {A B : Type 0} → Option A → (A → Option B) → Option B
and_then None f = None
and_then (Some x) f = f x

abbrev pub points_in : List ℕ → Option (Option (List ℕ))
points_in text = and_then (number_of 4294967295 text) (λ n. Some (cond (n == 0) None (Some (n ∷ []))))

-- the level of a class, from its name
abbrev pub level_of : List ℕ → Option ℕ
level_of name =
    cond (bytes_eq name (codes "QM")) (Some 0) (cond (bytes_eq name (codes "A")) (Some 1) (cond (bytes_eq name (codes "B")) (Some 2) (cond (bytes_eq name (codes "C")) (Some 3) (cond (bytes_eq name (codes "D")) (Some 4) None))))

-- 58 is the colon
abbrev pub classed_in : List ℕ → Option (Option (List ℕ))
classed_in text =
    and_then (cut_at 58 text) (λ p. and_then (level_of p.0) (λ level. and_then (number_of 65535 p.1) (λ n. Some (cond (n == 0) None (Some (level ∷ n ∷ []))))))

-- 47 is the stroke
abbrev pub share_in : List ℕ → Option (Option (List ℕ))
share_in text =
    and_then (cut_at 47 text) (λ p. and_then (number_of 65535 p.0) (λ n. and_then (number_of 65535 p.1) (λ m. Some (cond (n == 0 || m == 0) None (Some (n ∷ m ∷ []))))))

abbrev pub points_figures : Points → List ℕ
points_figures w = w.count ∷ []

abbrev pub classed_figures : Classed → List ℕ
classed_figures w = class_level w.class ∷ w.points ∷ []

abbrev pub share_figures : Share → List ℕ
share_figures w = w.part ∷ w.whole ∷ []

abbrev pub answer_figures : {W : Type 0} → (W → List ℕ) → Result W WeightFault → Option (List ℕ)
answer_figures figures (Ok w) = Some (figures w)
answer_figures figures (Err f) = None
