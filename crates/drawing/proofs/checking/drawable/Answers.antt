use Rattle.std.proofs.Common.{◌≤◌, length, arith, rules, tests}
use Rattle.std.proofs.lemmas.Iterator.{cases_from_all, YieldsList-from_range}
use Rattle.placing.specs.Placing.{row}
use Rattle.drawing.proofs.Checked.{Taken, checked}
use Rattle.drawing.proofs.checking.drawable.Goals as goal

pub returns-then-rows-le256 : goal.returns-then-rows-le256
returns-then-rows-le256 c =
    let rows = c.args.rows.now in
    record {
      answers = checked rows c.all.result c.if-rows-le256.true
          (cases_from_all _ _ _ (λ i. ((row rows i).deadline ≤ 1024) × (Taken rows i → ⊥)) (λ i. (row rows i).deadline ≤ 1024 → Taken rows i) c.all.ensures.ran
          (YieldsList-from_range 0 (length rows) (length rows) (cc) (omega arith)) (λ x q k. search (rules, tests)) (λ x q k. search (rules, tests)));
    }
