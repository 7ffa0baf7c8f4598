use Rattle.writing.specs.Puts.{Adds}
use Rattle.writing.specs.Written.{masks_of}
use Rattle.writing.proofs.records.put_masks.Given as goal

-- the masks of the slots so far are there
abbrev pub invariant-loop-slot : goal.invariant-loop-slot
invariant-loop-slot g l = Adds (masks_of l.slot (g.C.Calendar.mask l.calendar)) l.initial.front l.front
