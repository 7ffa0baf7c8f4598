use Rattle.drawing.specs.Seats.{SeatsRead}
use Rattle.drawing.proofs.reading.read_slot.Given as goal

abbrev pub invariant-loop-p : goal.invariant-loop-p
invariant-loop-p g l = SeatsRead (g.C.Calendar.mask l.calendar) l.places l.seats l.p
