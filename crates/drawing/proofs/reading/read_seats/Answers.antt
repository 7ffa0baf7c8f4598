use Rattle.std.proofs.Common.{◌≡◌, ◌+◌, length, get_or, sym, ◌∙◌, subst, arith, rules}
use Rattle.calendars.proofs.Opens.{opens_none}
use Rattle.drawing.specs.Trial.{OfRows}
use Rattle.drawing.proofs.Slots.{counts_rise}
use Rattle.drawing.proofs.Places.{count_more, numbered_from}
use Rattle.drawing.proofs.Seating.{seating_none}
use Rattle.drawing.proofs.reading.read_seats.Goals as goal

pub loop-s-init : goal.loop-s-init
loop-s-init g c =
    let mask = g.C.Calendar.mask c.args.calendar.now in
    seating_none mask c.args.places.now c.fill.new.self (get_or c.args.counts.now 0 0)
    (c.requires.counted 0 (omega arith) ∙ opens_none mask) (search rules)

pub read_slot-requires : goal.read_slot-requires
read_slot-requires g c =
    let mask = g.C.Calendar.mask c.args.calendar.now in
    let counts = c.args.counts.now in
    let s = c.loop-s.s in
    let rises = counts_rise counts (numbered_from mask counts (search rules) c.requires.counted) (s + 1) 1024 (omega arith) (omega arith) in
    let long : length c.loop-s.seats ≡ length c.args.seats.now = search rules in
    record {
      slots = c.loop-s-test.true;
      begins = c.requires.counted s (omega arith);
      ends = count_more mask counts (search rules) c.requires.counted s (omega arith);
      room = omega arith;
      few = omega arith;
      seated = subst (OfRows c.args.places.now) (sym long) c.requires.seated;
      once = λ p q l m h. c.requires.once p q (omega arith) (omega arith) (omega arith);
      read = c.loop-s.invariant;
    }
