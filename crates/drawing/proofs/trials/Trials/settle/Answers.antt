use Rattle.std.proofs.Common.{◌≡◌, ℕ, ◌+◌, ◌<◌, ◌≤◌, length, get_or, sym, refl, ap, ◌∙◌, subst, arith, rules, below_more}
use Rattle.std.proofs.lemmas.List.{length-set}
use Rattle.drawing.specs.Trial.{order, seat_of, start, settled_in, OfRows}
use Rattle.drawing.proofs.Walk.{settled_start}
use Rattle.drawing.proofs.Carrying.{Carrying, carrying_start, carrying_keep, carrying_swap, taken_place, empty_place, stored, beyond, seats_row}
use Rattle.drawing.proofs.trials.Trials.settle.Goals as goal
use Rattle.drawing.proofs.trials.Trials.settle.Goals.{in-Some+then-served_first, in-Some+else-served_first, in_default}

pub loop-p-init : goal.loop-p-init
loop-p-init c =
    let t = c.args.self.now in
    let from = c.first_place-p.ensures.value in (
      rw from (carrying_start t.rows.now t.counts.now c.args.places.now c.args.x t.drawable t.numbered c.requires.within c.requires.early),
      (λ q l. sym (settled_start (order t.rows.now) (seat_of c.args.places.now) (start t.rows.now t.counts.now c.args.x) c.args.x q (omega (arith, from)))),
      (λ q l. refl),
      c.requires.seated,
      search rules,
    )

pub loop-p-preserved : goal.loop-p-preserved
loop-p-preserved c =
    let t = c.args.self.now in
    let rows = t.rows.now in
    let counts = t.counts.now in
    let old = c.args.places.now in
    let x = c.args.x in
    let p = c.loop-p.p in
    let hand = c.loop-p.carried in
    let inv = c.loop-p.invariant in
    let ends = c.requires.succeeds in
    let from : start rows counts x ≤ p = omega (arith, c.first_place-p.ensures.value) in
    let pass = ends.2 p from c.loop-p-test.true in
    let end = ends.1 in
    let inside : p < get_or counts 1024 0 = omega arith in
    let room = t.room in
    let long : p < length c.loop-p.places = omega (arith, inv.4) in
    let same : seat_of c.loop-p.places p ≡ seat_of old p = inv.2 p (omega arith) in
    elim c.match-places-p.branch [
      | in-Some+then-served_first w ↦
          let here : w.from-sitting.result ≡ seat_of old p = w.from-sitting.ensures ∙ (sym (taken_place c.loop-p.places p w.in-Some.sitting w.in-Some.is) ∙ same) in
          let g = carrying_swap rows counts old x t.drawable t.numbered c.requires.within c.requires.early p hand inv.0 inside pass.0 pass.1
          (rw here at (sym w.if-served_first.ensures.value)) in (
            subst (λ v. Carrying rows counts old x (p + 1) v) (sym (w.carried-is ∙ here)) g.0,
            subst (λ ys. (q : ℕ) → q < p + 1 → seat_of ys q ≡ settled_in rows counts old x q) (sym w.places-is) (stored (settled_in rows counts old x) c.loop-p.places p hand long (sym g.1) inv.1),
            subst (λ ys. (q : ℕ) → p + 1 ≤ q → seat_of ys q ≡ seat_of old q) (sym w.places-is) (beyond (seat_of old) c.loop-p.places p hand inv.2),
            subst (λ ys. OfRows ys (length rows)) (sym w.places-is) (seats_row c.loop-p.places (length rows) p hand long inv.3 inv.0.small),
            ap length w.places-is ∙ (length-set c.loop-p.places p _ ∙ inv.4),
          )
      | in-Some+else-served_first w ↦
          let here : w.from-sitting.result ≡ seat_of old p = w.from-sitting.ensures ∙ (sym (taken_place c.loop-p.places p w.in-Some.sitting w.in-Some.is) ∙ same) in
          let g = carrying_keep rows counts old x t.drawable t.numbered c.requires.within c.requires.early p hand inv.0 inside pass.0 pass.1
          (rw here at (sym w.if-served_first.ensures.value)) in (
            subst (λ v. Carrying rows counts old x (p + 1) v) (sym w.carried-is) g.0,
            subst (λ ys. (q : ℕ) → q < p + 1 → seat_of ys q ≡ settled_in rows counts old x q) (sym w.places-is) (below_more _ _ inv.1 (same ∙ sym g.1)),
            subst (λ ys. (q : ℕ) → p + 1 ≤ q → seat_of ys q ≡ seat_of old q) (sym w.places-is) (λ q l. inv.2 q (omega arith)),
            subst (λ ys. OfRows ys (length rows)) (sym w.places-is) inv.3,
            ap length w.places-is ∙ inv.4,
          )
      | in_default w ↦
          let empty = empty_place c.loop-p.places p w.in_default.not-Some in
          let few = t.drawable.few in
          absurd (omega (arith, pass.0))
    ]
