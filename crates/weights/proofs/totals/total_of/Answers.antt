use Rattle.std.proofs.Common.{◌++◌, ◌∷◌, [], length, fold, sym, ap, ◌∙◌, subst, ⊎_elim, inl, inr, length-append, arith}
use Rattle.std.proofs.lemmas.List.Sums.{fold_push}
use Rattle.weights.proofs.Picked.{none_left, picked_front}
use Rattle.weights.proofs.totals.total_of.Goals as goal

-- those seen so far, and this one
pub returns-in_err-total : goal.returns-in_err-total
returns-in_err-total g c =
    let t = g.W.TotalledWeight in
    let x = c.in-Some.weight.now in
    let seen = c.loop-weight.invariant.3.0 in
    let all = ap (λ s. t.plus s x) c.loop-weight.invariant.3.2 ∙ sym (fold_push t.plus t.nothing seen x) in
    absurd (c.in_err-total.ensures.value (subst t.fits (sym all) (g.met.W.TotalledWeight.room (seen ++ x ∷ []) (omega (arith, length-append seen (x ∷ []), ap length c.in-Some.ensures.steps.0, c.loop-weight.invariant.3.1)))))

pub loop-weight-preserved-then-is_picked : goal.loop-weight-preserved-then-is_picked
loop-weight-preserved-then-is_picked g c =
    let t = g.W.TotalledWeight in
    let x = c.in-Some.weight.now in
    let i = c.loop-weight.invariant in
    let steps = c.in-Some.ensures.steps in
    let seen = i.3.0 in (
      i.0,
      i.1,
      rw c.in_ok-total.ensures.value (rw (steps.0, steps.1, c.if-is_picked.true) at i.2),
      (
        seen ++ x ∷ [],
        omega (arith, length-append seen (x ∷ []), ap length steps.0, i.3.1),
        c.in_ok-total.ensures.value ∙ ap (λ s. t.plus s x) i.3.2 ∙ sym (fold_push t.plus t.nothing seen x),
      ),
    )

pub returns : goal.returns
returns g c =
    let t = g.W.TotalledWeight in
    let i = c.loop-weight.invariant in
    let none = none_left _ _ (⊎_elim (λ a. inl a.1.0) (λ b. inr b.1.0) c.in-None.ensures.steps) in (
      (omega arith, omega arith, omega arith),
      sym (ap (fold t.plus c.loop-weight.total) none) ∙ i.2 ∙ ap (fold t.plus t.nothing) (sym (picked_front c.args.n c.args.picked.now c.args.weights.now)),
    )
