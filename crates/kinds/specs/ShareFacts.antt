-- Shares by their parts, and the order by products.
use Rattle.std.specs.Prelude.{◌≡◌, ℕ, ◌+◌, ◌*◌, ◌^◌, ◌<◌, ◌≤◌, List, [], ◌∷◌, ◌++◌, length, take, drop, slice_index}
use Rattle.std.proofs.Common.{sym, ap, ◌∙◌, mul_right_comm, mul-le-mul_right, le_of_mul-le-mul_right, arith}
use mathlib.Core.HLevel.{is_prop→PathP}
use Rattle.std.proofs.Math.Bridge.{le_prop}
use Rattle.kinds.specs.declared.share.Share.{Share}
use Rattle.kinds.specs.Bytes.{high_first}
use Rattle.kinds.specs.HighFirst.{high_first_injective, high_first_read, spelled}

pub share_same : (s t : Share) → s.part ≡ t.part → s.whole ≡ t.whole → s ≡ t
share_same s t p w = λ j. record {
  part = p j;
  whole = w j;
  ok = (is_prop→PathP (λ k. 1 ≤ p k) (λ k. le_prop) s.ok.0 t.ok.0 j, is_prop→PathP (λ k. p k ≤ 65535) (λ k. le_prop) s.ok.1 t.ok.1 j, is_prop→PathP (λ k. 1 ≤ w k) (λ k. le_prop) s.ok.2 t.ok.2 j, is_prop→PathP (λ k. w k ≤ 65535) (λ k. le_prop) s.ok.3 t.ok.3 j);
}

-- equal bytes, equal numbers
pub share_parts : (p w q v : ℕ) → p < 256 ^ 2 → w < 256 ^ 2 → q < 256 ^ 2 → v < 256 ^ 2 → high_first 2 p ++ high_first 2 w ≡ high_first 2 q ++ high_first 2 v → (p ≡ q) × (w ≡ v)
share_parts p w q v hp hw hq hv e = (high_first_injective 2 p q hp hq (ap (take 2) e), high_first_injective 2 w v hw hv (ap (drop 2) e))

-- what four bytes write
pub share_read : (p w : ℕ) (bs : List ℕ) → length bs ≡ 4 → ((i : ℕ) → slice_index bs i < 256) → p ≡ slice_index bs 0 * 256 + slice_index bs 1 → w ≡ slice_index bs 2 * 256 + slice_index bs 3 → high_first 2 p ++ high_first 2 w ≡ bs
share_read p w bs h b e f =
    let first = high_first_read (slice_index bs 0 ∷ slice_index bs 1 ∷ []) p (b 0, (b 1, tt)) (omega arith) in
    let second = high_first_read (slice_index bs 2 ∷ slice_index bs 3 ∷ []) w (b 2, (b 3, tt)) (omega arith) in
    ap (λ xs. xs ++ high_first 2 w) first ∙ ap (λ xs. slice_index bs 0 ∷ slice_index bs 1 ∷ xs) second ∙ sym (spelled 4 bs h)

-- a/b is at least c/d, and c/d at least e/f
pub cross : (a b c d e f : ℕ) → 0 < d → c * b ≤ a * d → e * d ≤ c * f → e * b ≤ a * f
cross a b c d e f pos p q =
    let x : e * d * b ≤ c * f * b = mul-le-mul_right b q in
    let y : c * b * f ≤ a * d * f = mul-le-mul_right f p in
    let z : e * b * d ≤ a * f * d = omega (arith, x, y, mul_right_comm e d b, mul_right_comm c f b, mul_right_comm a d f) in
    le_of_mul-le-mul_right z pos
