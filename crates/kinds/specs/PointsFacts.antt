-- Points by their count, and the bound of a sum.
use Rattle.std.specs.Prelude.{◌≡◌, ℕ, ◌+◌, ◌*◌, ◌<◌, ◌≤◌, List, [], ◌∷◌, length, fold, slice_index}
use Rattle.std.proofs.Common.{sym, ◌∙◌, arith}
use mathlib.Core.HLevel.{is_prop→PathP}
use Rattle.std.proofs.Math.Bridge.{le_prop}
use Rattle.kinds.specs.declared.points.Points.{Points}
use Rattle.kinds.specs.declared.points.PointsTotal.{PointsTotal}
use Rattle.kinds.specs.Bytes.{high_first}
use Rattle.kinds.specs.PointsKind.{points_plus}
use Rattle.kinds.specs.HighFirst.{high_first_read, spelled}

pub points_same : (p q : Points) → p.count ≡ q.count → p ≡ q
points_same p q e = λ j. record {
  count = e j;
  ok = (is_prop→PathP (λ k. 1 ≤ e k) (λ k. le_prop) p.ok.0 q.ok.0 j, is_prop→PathP (λ k. e k ≤ 4294967295) (λ k. le_prop) p.ok.1 q.ok.1 j);
}

-- what four bytes write
pub points_read : (n : ℕ) (bs : List ℕ) → length bs ≡ 4 → ((i : ℕ) → slice_index bs i < 256) → n ≡ slice_index bs 0 * 16777216 + slice_index bs 1 * 65536 + slice_index bs 2 * 256 + slice_index bs 3 → high_first 4 n ≡ bs
points_read n bs h b e =
    high_first_read (slice_index bs 0 ∷ slice_index bs 1 ∷ slice_index bs 2 ∷ slice_index bs 3 ∷ []) n (b 0, (b 1, (b 2, (b 3, tt)))) (omega arith) ∙ sym (spelled 4 bs h)

pub sum_bound : (t : PointsTotal) (ws : List Points) → (fold points_plus t ws).sum ≤ t.sum + length ws * 4294967295
sum_bound t [] = omega arith
sum_bound t (w ∷ ws) = let h = sum_bound (points_plus t w) ws in let k = w.ok in omega arith
