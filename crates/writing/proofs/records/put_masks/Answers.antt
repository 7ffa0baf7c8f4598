use Rattle.std.proofs.Common.{ℕ, List, [], ◌∷◌, sym, subst, arith}
use Rattle.std.proofs.lemmas.List.FromFn.{length-map-range_with_len, map-range_with_len_more}
use Rattle.writing.specs.Puts.{Adds}
use Rattle.writing.specs.Written.{masks_of}
use Rattle.writing.proofs.Puts.{room_left, adds_then}
use Rattle.writing.proofs.records.put_masks.Goals as goal

pub put-requires : goal.put-requires
put-requires g c =
    let mask = g.C.Calendar.mask c.args.calendar.now in
    let slot = c.loop-slot.slot in
    let long = length-map-range_with_len mask 0 slot in
    let end = c.end-slot-end.ensures.value in
    let room = c.requires.room in
    record { room = room_left (masks_of slot mask) c.args.front.now c.loop-slot.front c.loop-slot.invariant 1 (omega arith) }

pub loop-slot-preserved : goal.loop-slot-preserved
loop-slot-preserved g c =
    let mask = g.C.Calendar.mask c.args.calendar.now in
    let slot = c.loop-slot.slot in
    let front = c.put.new.self in
    let one = subst (λ (m : ℕ). Adds (m ∷ []) c.loop-slot.front front) c.mask.ensures.value c.put.ensures.value in
    subst (λ (l : List ℕ). Adds l c.args.front.now front) (sym (map-range_with_len_more mask 0 slot slot (omega arith)))
    (adds_then (masks_of slot mask) c.args.front.now c.loop-slot.front c.loop-slot.invariant (mask slot ∷ []) front one)
