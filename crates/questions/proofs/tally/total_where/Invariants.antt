use Rattle.std.proofs.Common.{◌≡◌, ◌+◌, ◌≤◌, List, length, take, fold}
use Rattle.std.specs.Slice.Iter.{iter_rest}
use Rattle.std.specs.Iterator.Adapters.{zip_first, zip_second}
use Rattle.questions.proofs.Tallies.{weights_where}
use Rattle.questions.proofs.tally.total_where.Given as goal

-- what is still to come brings the total to that of all; the weights seen so far have it
abbrev pub invariant-loop-row : goal.invariant-loop-row
invariant-loop-row g l =
    let t = g.W.TotalledWeight in
    let rows = iter_rest (zip_first l.row-iterator) in
    let ws = iter_rest (zip_second l.row-iterator) in
    (goal.iterator-loop-row g).can_next l.row-iterator ×
    (goal.iterator-loop-row g).is_finite l.row-iterator ×
    (fold t.plus l.total (weights_where l.kept rows ws) ≡ fold t.plus t.nothing (weights_where l.kept l.rows (take (length l.rows) l.store))) ×
    ((seen : List g.row.W.Denot) × (length seen + length rows ≤ 256) × (l.total ≡ fold t.plus t.nothing seen))
