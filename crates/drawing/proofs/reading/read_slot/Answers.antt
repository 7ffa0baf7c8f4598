use Rattle.std.proofs.Common.{◌≡◌, ◌+◌, ◌<◌, length, get_or, set, Some, None, sym, ap, ◌∙◌, subst, arith, rules}
use lib.Count.{ones-le}
use Rattle.std.proofs.lemmas.Option.{MatchOption-at_some}
use Rattle.jobs.specs.declared.terms.Seat.{Seat}
use Rattle.drawing.specs.Trial.{seat_of}
use Rattle.drawing.specs.Seats.{Once, SeatsRead}
use Rattle.drawing.proofs.Carrying.{taken_place, empty_place}
use Rattle.drawing.proofs.Seating.{seating_skip, seating_more, seat_here}
use Rattle.drawing.proofs.reading.read_slot.Goals as goal
use Rattle.drawing.proofs.reading.read_slot.Goals.{in-Some, in_default}

pub overflow_cast-p : goal.overflow_cast-p
overflow_cast-p g c =
    let m = g.met.C.Calendar.mask_bound c.args.calendar.now c.args.slot in
    let o = ones-le 8 (g.C.Calendar.mask c.args.calendar.now c.args.slot) m in
    omega arith

pub loop-p-preserved : goal.loop-p-preserved
loop-p-preserved g c =
    let mask = g.C.Calendar.mask c.args.calendar.now in
    let at = c.args.places.now in
    let out = c.loop-p.seats in
    let p = c.loop-p.p in
    let slot = c.args.slot in
    let past = c.requires.ends in
    let from = c.loop-p.auto.p in
    let long : length out ≡ length c.args.seats.now = search rules in
    elim c.match-places-from.branch [
      | in-Some w ↦
          let i = w.in-Some.row in
          let link = w.unwrap-link.result in
          let found = MatchOption-at_some _ _ link w.unwrap-link.ensures w.kth_open_link.ensures.cases in
          let seat : Seat = record { slot = slot; link = link } in
          let taken : get_or at p None ≡ Some i = subst (λ k. get_or at k None ≡ Some i) c.from.ensures w.in-Some.is in
          let sits = taken_place at p i taken in
          let here : w.from-in-Some.result ≡ seat_of at p = w.from-in-Some.ensures ∙ sym sits in
          let within : seat_of at p < length out = omega (arith, sits, c.requires.seated p i taken) in
          subst (λ ys. SeatsRead mask at ys (p + 1)) (sym (w.seats-is ∙ ap (λ k. set out k (Some seat)) here))
          (seating_more mask at out p c.loop-p.invariant c.args.past c.loop-p-test.true
          (subst (λ n. Once at c.args.past n) (sym long) c.requires.once) within seat
          (seat_here mask slot p link c.args.first c.requires.slots c.requires.begins from found.1))
      | in_default w ↦
          let empty = empty_place at p (λ i e. w.in_default.not-Some i (subst (λ k. get_or at k None ≡ Some i) (sym c.from.ensures) e)) in
          let few = c.requires.few in
          subst (λ ys. SeatsRead mask at ys (p + 1)) (sym w.seats-is) (seating_skip mask at out p c.loop-p.invariant (omega arith))
    ]

pub returns : goal.returns
returns g c =
    let past = c.requires.ends in
    let upto = c.loop-p.auto.p-end in
    let last : c.loop-p.p ≡ c.args.past = omega (arith, upto (omega arith)) in
    record { leaves = subst (λ y. SeatsRead (g.C.Calendar.mask c.args.calendar.now) c.args.places.now c.loop-p.seats y) last c.loop-p.invariant }
