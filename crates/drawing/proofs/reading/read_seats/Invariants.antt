use Rattle.std.proofs.Common.{get_or}
use Rattle.drawing.specs.Seats.{SeatsRead}
use Rattle.drawing.proofs.reading.read_seats.Given as goal

abbrev pub invariant-loop-s : goal.invariant-loop-s
invariant-loop-s g l = SeatsRead (g.C.Calendar.mask l.calendar) l.places l.seats (get_or l.counts l.s 0)
