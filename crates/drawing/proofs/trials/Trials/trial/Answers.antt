use Rattle.std.proofs.Common.{◌≤◌, refl, arith}
use Rattle.std.proofs.lemmas.Bool.{true≢false, false≢true}
use Rattle.placing.specs.Placing.{row}
use Rattle.drawing.proofs.Tried.{tried, refused}
use Rattle.drawing.proofs.trials.Trials.trial.Goals as goal

pub returns-in-Some : goal.returns-in-Some
returns-in-Some c =
    let shut = c.if-self-x.false in
    let soon = c.args.self.now.drawable.deadlines c.args.x c.requires.within in
    let early : (row c.args.self.now.rows.now c.args.x).ready ≤ 1024 = omega arith in
    record {
      seated = c.settle.ensures.seated;
      made = λ kept f _. tried c.args.self.now.rows.now c.args.self.now.counts.now c.args.places.now c.args.x c.args.self.now.drawable c.args.self.now.numbered c.requires.within early kept f
          c.settle.new.places c.in-Some.e c.in-Some.ensures.cases c.settle.ensures.made c.settle.ensures.leaves c.settle.ensures.same;
      refused = λ kept f z. absurd (true≢false z);
      same = λ z. absurd (true≢false z);
    }

pub returns-in-None : goal.returns-in-None
returns-in-None c =
    let shut = c.if-self-x.false in
    let soon = c.args.self.now.drawable.deadlines c.args.x c.requires.within in
    let early : (row c.args.self.now.rows.now c.args.x).ready ≤ 1024 = omega arith in
    record {
      seated = c.requires.seated;
      made = λ kept f z. absurd (false≢true z);
      refused = λ kept f _.
          let w = c.in-None.ensures.cases in
          refused c.args.self.now.rows.now c.args.self.now.counts.now c.args.places.now c.args.x c.args.self.now.drawable c.args.self.now.numbered c.requires.within early kept f w.0 w.1;
      same = λ _. refl;
    }
