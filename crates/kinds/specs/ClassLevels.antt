-- The classes by their level. Assumes nothing.
--   class_level c    0 for QM, then 1 to 4 for A to D
--   OfLevel n r      r is the class with the level n; refused where n is above 4
use Rattle.std.specs.Prelude.{◌≡◌, ℕ, ◌<◌, Result, MatchResult}
use Rattle.weights.specs.declared.fault.WeightFault.{WeightFault}
use Rattle.weights.specs.declared.fault.WeightFault.TheVariants.{NoWeight}
use Rattle.kinds.specs.declared.class.Class.{Class}
use Rattle.kinds.specs.declared.class.Class.TheVariants.{Qm, A, B, C, D}

abbrev pub class_level : Class → ℕ
class_level Qm = 0
class_level A = 1
class_level B = 2
class_level C = 3
class_level D = 4

abbrev pub OfLevel : ℕ → Result Class WeightFault → Type 0
OfLevel n r = MatchResult r (λ c. class_level c ≡ n) (λ f. (f ≡ NoWeight) × (4 < n))
