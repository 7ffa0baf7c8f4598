use Rattle.std.proofs.Common.{◌≡◌, ◌+◌, ◌<◌, ◌≤◌, length, get_or, sym, ◌∙◌, subst, arith}
use Rattle.placing.specs.Placing.{row}
use Rattle.drawing.specs.Trial.{seat_of}
use Rattle.drawing.proofs.Carrying.{Carrying, carrying_start, carrying_below, carrying_deadline, carrying_keep, carrying_swap, carrying_succeeds, carrying_fails, taken_place, empty_place}
use Rattle.drawing.proofs.trials.Trials.probe.Goals as goal
use Rattle.drawing.proofs.trials.Trials.probe.Goals.{then-served_first, else-served_first}

pub loop-p-init : goal.loop-p-init
loop-p-init c =
    let t = c.args.self.now in
    rw c.first_place-p.ensures.value (carrying_start t.rows.now t.counts.now c.args.places.now c.args.x t.drawable t.numbered c.requires.within c.requires.early)

pub bounds : goal.bounds
bounds c =
    let t = c.args.self.now in
    let in_time : c.loop-p.p < get_or t.counts.now (row t.rows.now c.loop-p.carried).deadline 0 = omega arith in
    let b = carrying_below t.rows.now t.counts.now c.args.places.now c.args.x t.drawable t.numbered c.requires.within c.requires.early
    c.loop-p.p c.loop-p.carried c.loop-p.invariant in_time in
    omega (arith, t.room)

pub returns-in_default : goal.returns-in_default
returns-in_default c =
    let t = c.args.self.now in
    let in_time : c.loop-p.p < get_or t.counts.now (row t.rows.now c.loop-p.carried).deadline 0 = omega arith in
    let few = t.drawable.few in
    record {
      cases = carrying_succeeds t.rows.now t.counts.now c.args.places.now c.args.x t.drawable t.numbered c.requires.within c.requires.early
          c.loop-p.p c.loop-p.carried c.loop-p.invariant in_time (omega (arith, empty_place c.args.places.now c.loop-p.p c.in_default.not-Some));
    }

pub loop-p-smaller : goal.loop-p-smaller
loop-p-smaller c =
    let t = c.args.self.now in
    let in_time : c.loop-p.p < get_or t.counts.now (row t.rows.now c.loop-p.carried).deadline 0 = omega arith in
    let b = carrying_below t.rows.now t.counts.now c.args.places.now c.args.x t.drawable t.numbered c.requires.within c.requires.early
    c.loop-p.p c.loop-p.carried c.loop-p.invariant in_time in
    omega arith

pub loop-p-preserved : goal.loop-p-preserved
loop-p-preserved c =
    let t = c.args.self.now in
    let at = c.args.places.now in
    let p = c.loop-p.p in
    let hand = c.loop-p.carried in
    let in_time : p < get_or t.counts.now (row t.rows.now hand).deadline 0 = omega arith in
    let taken = taken_place at p c.in-Some.sitting c.in-Some.is in
    let here : c.from-sitting.result ≡ seat_of at p = c.from-sitting.ensures ∙ sym taken in
    let seated : seat_of at p < length t.rows.now = omega (arith, taken, c.requires.seated p c.in-Some.sitting c.in-Some.is) in
    let b = carrying_below t.rows.now t.counts.now at c.args.x t.drawable t.numbered c.requires.within c.requires.early p hand c.loop-p.invariant in_time in
    let d = carrying_deadline t.rows.now t.counts.now at c.args.x t.drawable t.numbered c.requires.within c.requires.early p hand c.loop-p.invariant in_time in
    elim c.if-served_first.branch [
      | then-served_first w ↦
          subst (λ v. Carrying t.rows.now t.counts.now at c.args.x (p + 1) v) (sym (w.carried-is ∙ here))
          (carrying_swap t.rows.now t.counts.now at c.args.x t.drawable t.numbered c.requires.within c.requires.early
          p hand c.loop-p.invariant b seated d (rw here at (sym w.if-served_first.ensures.value))).0
      | else-served_first w ↦
          subst (λ v. Carrying t.rows.now t.counts.now at c.args.x (p + 1) v) (sym w.carried-is)
          (carrying_keep t.rows.now t.counts.now at c.args.x t.drawable t.numbered c.requires.within c.requires.early
          p hand c.loop-p.invariant b seated d (rw here at (sym w.if-served_first.ensures.value))).0
    ]

pub returns : goal.returns
returns c =
    let t = c.args.self.now in
    let late : get_or t.counts.now (row t.rows.now c.loop-p.carried).deadline 0 ≤ c.loop-p.p = omega arith in
    record {
      cases = (
        c.loop-p.p,
        carrying_fails t.rows.now t.counts.now c.args.places.now c.args.x t.drawable t.numbered c.requires.within c.requires.early
            c.loop-p.p c.loop-p.carried c.loop-p.invariant late,
      );
    }
