use Rattle.std.proofs.Common.{◌≡◌, ℕ, false, Option, Some, None, unwrap_or, ap, arith}
use Rattle.dealing.proofs.Keeping.{also}
use Rattle.drawing.specs.Trial.{seat_of}
use Rattle.drawing.proofs.InTurn.{trials_none, trials_more, trials_all}
use Rattle.drawing.proofs.trials.Trials.deal.Goals as goal

none_sits : (o : Option ℕ) (i : ℕ) → o ≡ None → o ≡ Some i → ⊥
none_sits o i e f = cc

pub loop-x-init : goal.loop-x-init
loop-x-init c = (
  λ _. false,
  trials_none c.args.self.now.rows.now c.args.self.now.counts.now (λ _. false) c.args.places.now
      (λ q l.
      let nobody : seat_of c.args.places.now q ≡ 256 = ap (λ o. unwrap_or o 256) (c.requires.empty q) in
      let few = c.args.self.now.drawable.few in
      omega arith),
  λ p i e. absurd (none_sits _ _ (c.requires.empty p) e),
)

pub loop-x-preserved : goal.loop-x-preserved
loop-x-preserved c =
    let e = c.trial.ensures in
    let kept = c.loop-x.invariant.0 in
    let after = c.loop-x.invariant.1 in (
      also kept c.loop-x.x c.trial.result,
      trials_more c.args.self.now.rows.now c.args.self.now.counts.now kept c.loop-x.x c.trial.result c.loop-x.places c.trial.new.places after
          (e.made kept after.all) (e.refused kept after.all) e.same,
      e.seated,
    )

pub returns : goal.returns
returns c = record {
  leaves = trials_all c.args.self.now.rows.now c.args.self.now.counts.now c.loop-x.invariant.0 c.loop-x.places c.loop-x.x c.loop-x-test.false c.loop-x.invariant.1;
  seated = c.loop-x.invariant.2;
}
