use Rattle.std.proofs.Common.{Some, None, arith}
use Rattle.std.proofs.lemmas.List.{at_drop_all}
use Rattle.calls.specs.Questions.{kept_count, dropped_count}
use Rattle.questions.proofs.Tallies.{kept_less, dropped_less}
use Rattle.questions.proofs.tally.count.Goals as goal
use Rattle.questions.proofs.tally.count.Goals.{in-Some, in-None}

pub loop-row-preserved : goal.loop-row-preserved
loop-row-preserved c =
    let rows = c.args.rows.now in
    let i = c.loop-row.row-index in
    elim c.match-row.branch [
      | in-Some w ↦
          (let p = kept_less rows i (Some w.in-Some.field-0) (omega arith) w.in-Some.is in
          let q = dropped_less rows i (Some w.in-Some.field-0) (omega arith) w.in-Some.is in
          (omega arith, omega arith, omega arith))
      | in-None w ↦
          (let p = kept_less rows i None (omega arith) w.in-None.is in
          let q = dropped_less rows i None (omega arith) w.in-None.is in
          (omega arith, omega arith, omega arith))
    ]

pub returns : goal.returns
returns c =
    let rows = c.args.rows.now in
    let p = at_drop_all kept_count rows c.loop-row.row-index (omega arith) in
    let q = at_drop_all dropped_count rows c.loop-row.row-index (omega arith) in
    record { value = (omega arith, omega arith) }
