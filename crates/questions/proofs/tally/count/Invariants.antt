use Rattle.std.proofs.Common.{◌≡◌, ◌+◌, drop}
use Rattle.calls.specs.Questions.{kept_count, dropped_count}
use Rattle.questions.proofs.tally.count.Given as goal

abbrev pub invariant-loop-row : goal.invariant-loop-row
invariant-loop-row l =
    (l.kept + kept_count (drop l.row-index l.rows) ≡ kept_count l.rows)
    × (l.dropped + dropped_count (drop l.row-index l.rows) ≡ dropped_count l.rows)
    × (l.kept + l.dropped ≡ l.row-index)
