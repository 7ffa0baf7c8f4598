-- Weights and totals in print. Assumes nothing.
--   class_name c       the name of a class
--   points_text w      points: a number
--   classed_text w     classed: the class, a colon and the points
--   share_text w       a share: a fraction
--   sums_text sums     five sums, from class D down
use Rattle.std.specs.Prelude.{ℕ, List, ◌++◌, codes, decimal, slice_index}
use Rattle.kinds.specs.declared.class.Class.{Class}
use Rattle.kinds.specs.declared.class.Class.TheVariants.{Qm, A, B, C, D}
use Rattle.kinds.specs.declared.points.Points.{Points}
use Rattle.kinds.specs.declared.classed.Classed.{Classed}
use Rattle.kinds.specs.declared.share.Share.{Share}

abbrev pub class_name : Class → List ℕ
class_name Qm = codes "QM"
class_name A = codes "A"
class_name B = codes "B"
class_name C = codes "C"
class_name D = codes "D"

abbrev pub points_text : Points → List ℕ
points_text w = decimal w.count

abbrev pub classed_text : Classed → List ℕ
classed_text w = class_name w.class ++ (codes ":" ++ decimal w.points)

abbrev pub share_text : Share → List ℕ
share_text w = decimal w.part ++ (codes "/" ++ decimal w.whole)

abbrev pub sums_text : List ℕ → List ℕ
sums_text sums =
    decimal (slice_index sums 0) ++ (codes "/" ++ (decimal (slice_index sums 1) ++ (codes "/" ++ (decimal (slice_index sums 2) ++ (codes "/" ++ (decimal (slice_index sums 3) ++ (codes "/" ++ decimal (slice_index sums 4))))))))
