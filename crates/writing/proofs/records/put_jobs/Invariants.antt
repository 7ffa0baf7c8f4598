use Rattle.std.specs.Iterator.Adapters.{zip_first, zip_second}
use Rattle.std.specs.Slice.Iter.{iter_rest}
use Rattle.writing.proofs.Jobs.{SoFar}
use Rattle.writing.proofs.records.put_jobs.Given as goal

-- the records of the jobs so far are there, and the rest of the rows and of the store make up the jobs that are left
abbrev pub invariant-loop-row : goal.invariant-loop-row
invariant-loop-row g l =
    (goal.iterator-loop-row g).can_next l.row-iterator ×
    (goal.iterator-loop-row g).is_finite l.row-iterator ×
    SoFar g.W.OrderedWeight.encoding l.rows l.store (iter_rest (zip_first l.row-iterator)) (iter_rest (zip_second l.row-iterator)) l.initial.front l.front
