-- Points as a kind of weight: more points are heavier, and a total is the sum. Assumes nothing.
--   points_encoding p        the points in four bytes
--   points_no_lighter p q    p has at least as many points as q
--   points_nothing           the sum of none
--   points_plus t p          the sum t with p added
--   points_over s t          the sum s is at least t
--   points_fits t            64 bits hold the sum
use Rattle.std.specs.Prelude.{ℕ, ◌+◌, ◌^◌, ◌<◌, Bool, List, nat_le}
use Rattle.kinds.specs.Bytes.{high_first}
use Rattle.kinds.specs.declared.points.Points.{Points}
use Rattle.kinds.specs.declared.points.PointsTotal.{PointsTotal}

abbrev pub points_encoding : Points → List ℕ
points_encoding p = high_first 4 p.count

abbrev pub points_no_lighter : Points → Points → Bool
points_no_lighter p q = nat_le q.count p.count

abbrev pub points_nothing : PointsTotal
points_nothing = record { sum = 0 }

abbrev pub points_plus : PointsTotal → Points → PointsTotal
points_plus t p = record { sum = t.sum + p.count }

abbrev pub points_over : PointsTotal → PointsTotal → Bool
points_over s t = nat_le t.sum s.sum

abbrev pub points_fits : PointsTotal → Type 0
points_fits t = t.sum < 2 ^ 64
