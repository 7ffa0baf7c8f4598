use Rattle.std.proofs.Common.{◌++◌, ◌∷◌, [], length, fold, sym, ap, ◌∙◌, subst, ⊎_elim, inl, inr, length-append, arith}
use mathlib.Core.Bool.{beq}
use Rattle.std.proofs.lemmas.List.Sums.{fold_push}
use Rattle.questions.proofs.Tallies.{none_where, where_front, folded}
use Rattle.questions.proofs.tally.total_where.Goals as goal

pub returns-in_err-total-clause-cases : goal.returns-in_err-total-clause-cases
returns-in_err-total-clause-cases g c =
    let t = g.W.TotalledWeight in
    let x = c.in-Some.weight.now in
    let seen = c.loop-row.invariant.3.0 in
    let all = ap (λ s. t.plus s x) c.loop-row.invariant.3.2 ∙ sym (fold_push t.plus t.nothing seen x) in
    absurd (c.in_err-total.ensures.value (subst t.fits (sym all) (g.met.W.TotalledWeight.room (seen ++ x ∷ []) (omega (arith, length-append seen (x ∷ []), ap length c.in-Some.ensures.steps.0, c.loop-row.invariant.3.1)))))

pub loop-row-preserved-then-is_some-kept : goal.loop-row-preserved-then-is_some-kept
loop-row-preserved-then-is_some-kept g c =
    let t = g.W.TotalledWeight in
    let x = c.in-Some.weight.now in
    let i = c.loop-row.invariant in
    let steps = c.in-Some.ensures.steps in
    let seen = i.3.0 in
    let picked = ap (λ b. beq b c.args.kept) (sym c.is_some.ensures) ∙ c.if-is_some-kept.true in
    (i.0, i.1, rw c.in_ok-total.ensures.value (rw (steps.0, steps.1, picked) at i.2), (seen ++ x ∷ [], omega (arith, length-append seen (x ∷ []), ap length steps.0, i.3.1), c.in_ok-total.ensures.value ∙ ap (λ s. t.plus s x) i.3.2 ∙ sym (fold_push t.plus t.nothing seen x)))

pub returns-clause-cases : goal.returns-clause-cases
returns-clause-cases g c =
    let t = g.W.TotalledWeight in
    let none = none_where c.args.kept _ _ (⊎_elim (λ a. inl a.1.0) (λ b. inr b.1.0) c.in-None.ensures.steps) in
    ((omega arith, omega arith), sym (ap (fold t.plus c.loop-row.total) none) ∙ c.loop-row.invariant.2 ∙ ap (fold t.plus t.nothing) (where_front c.args.kept c.args.rows.now c.args.store.now) ∙ folded t.nothing t.plus g.met.W.TotalledWeight.commutes c.args.kept c.args.rows.now c.args.store.now)
