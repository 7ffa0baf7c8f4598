use Rattle.std.proofs.Common.{◌≡◌, ◌+◌, ◌≤◌, List, length, fold, take}
use Rattle.std.specs.Slice.Iter.{iter_rest}
use Rattle.std.specs.Iterator.Adapters.{zip_first, zip_second}
use Rattle.weights.specs.Picking.{picked_of}
use Rattle.weights.proofs.totals.total_of.Given as goal

abbrev pub invariant-loop-weight : goal.invariant-loop-weight
invariant-loop-weight g l =
    let t = g.W.TotalledWeight in
    let ws = iter_rest (zip_first l.weight-iterator) in
    let bs = iter_rest (zip_second l.weight-iterator) in
    (goal.iterator-loop-weight g).can_next l.weight-iterator ×
    (goal.iterator-loop-weight g).is_finite l.weight-iterator ×
    (fold t.plus l.total (picked_of bs ws) ≡ fold t.plus t.nothing (picked_of l.picked (take l.n l.weights))) ×
    ((seen : List g.row.W.Denot) × (length seen + length ws ≤ 256) × (l.total ≡ fold t.plus t.nothing seen))
