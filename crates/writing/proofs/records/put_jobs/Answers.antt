use Rattle.std.specs.Iterator.Adapters.{zip_first, zip_second}
use Rattle.std.specs.Slice.Iter.{iter_rest}
use Rattle.writing.proofs.Jobs.{next, next_room, one_more}
use Rattle.writing.proofs.records.put_jobs.Goals as goal

pub put_job-requires : goal.put_job-requires
put_job-requires g c =
    let w = g.W.OrderedWeight in
    let rs = iter_rest (zip_first c.next.new.self) in
    let ws = iter_rest (zip_second c.next.new.self) in
    let left = next w.encoding w.WIDTH g.met.W.OrderedWeight.sized c.args.rows.now c.args.store.now c.args.front.now c.loop-row.front c.in-Some.row.now c.in-Some.weight.now rs ws _ _ c.in-Some.ensures.steps.0 c.in-Some.ensures.steps.1 c.loop-row.invariant.2 in
    record { room = next_room w.encoding w.WIDTH g.met.W.OrderedWeight.sized c.args.rows.now c.args.store.now c.args.front.now c.loop-row.front c.in-Some.row.now c.in-Some.weight.now rs ws c.requires.stored c.requires.room left }

pub loop-row-preserved : goal.loop-row-preserved
loop-row-preserved g c =
    let w = g.W.OrderedWeight in
    let rs = iter_rest (zip_first c.next.new.self) in
    let ws = iter_rest (zip_second c.next.new.self) in
    let left = next w.encoding w.WIDTH g.met.W.OrderedWeight.sized c.args.rows.now c.args.store.now c.args.front.now c.loop-row.front c.in-Some.row.now c.in-Some.weight.now rs ws _ _ c.in-Some.ensures.steps.0 c.in-Some.ensures.steps.1 c.loop-row.invariant.2 in
    ((tt, tt), tt, one_more w.encoding w.WIDTH g.met.W.OrderedWeight.sized c.args.rows.now c.args.store.now c.args.front.now c.loop-row.front c.in-Some.row.now c.in-Some.weight.now rs ws c.put_job.new.front left c.put_job.ensures.value)
