use Rattle.std.proofs.Common.{◌≡◌, ℕ, ◌-◌, List, length, set, sym, ap, ◌∙◌, arith, rules}
use Rattle.kinds.specs.ClassedKind.{added_at}
use Rattle.kinds.specs.ClassedFacts.{classed_agrees}
use Rattle.kinds.specs.Sums.{added_at_set, each32_at}
use Rattle.kinds.proofs.classed.weight.ClassedTotalledWeight.add.Goals as goal

pub returns-in_err-sum : goal.returns-in_err-sum
returns-in_err-sum c =
    let five : length c.args.total.sums ≡ 5 = search rules in
    record {
      value = rw c.from_residual.ensures (λ fits. c.in_err-sum.ensures (each32_at c.args.total.sums (4 - c.level.result) c.args.weight.now.points (omega arith) (rw c.level.ensures fits)));
      agrees = classed_agrees;
    }

pub returns : goal.returns
returns c =
    let xs : List ℕ = c.args.total.sums in
    let n : ℕ = c.args.weight.now.points in
    let place : ℕ = 4 - c.level.result in
    record {
      value = ap (λ (ys : List ℕ). record { sums = ys }) (ap (set xs place) c.in_ok-sum.ensures.1 ∙ sym (added_at_set xs place n) ∙ ap (λ (l : ℕ). added_at xs (4 - l) n) c.level.ensures);
      agrees = classed_agrees;
    }
