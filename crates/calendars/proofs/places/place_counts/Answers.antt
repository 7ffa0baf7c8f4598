use Rattle.std.proofs.Common.{sym, rules, arith}
use Rattle.std.proofs.lemmas.List.Edits.{fill_by_more}
use Rattle.calendars.specs.Places.{opens}
use Rattle.calendars.proofs.Opens.{opens_none, opens_more}
use Rattle.calendars.proofs.places.place_counts.Goals as goal

pub loop-slot-init : goal.loop-slot-init
loop-slot-init g c = (omega arith, sym (opens_none (g.C.Calendar.mask c.args.c.now)), λ k h. absurd (omega arith))

pub loop-slot-preserved : goal.loop-slot-preserved
loop-slot-preserved g c =
    let mask = g.C.Calendar.mask c.args.c.now in
    let here = c.loop-slot.invariant in (
      omega arith,
      omega (arith, opens_more mask c.loop-slot.slot, here.1, c.capacity.ensures),
      rw here.1 (fill_by_more (opens mask) c.loop-slot.counts c.loop-slot.slot 0 (search rules) here.2),
    )
