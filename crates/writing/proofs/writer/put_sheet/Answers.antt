use Rattle.std.proofs.Common.{◌+◌, ◌*◌, ◌++◌, length, rules, arith}
use Rattle.std.proofs.lemmas.List.FromFn.{length-map-range_with_len}
use Rattle.calls.specs.Moments.{jobs_in}
use Rattle.sheets.specs.Format.{kind_record, record_bytes, job_records}
use Rattle.writing.specs.Written.{masks_of}
use Rattle.writing.proofs.Puts.{room_left, adds_then, put_ends}
use Rattle.writing.proofs.writer.put_sheet.Goals as goal

pub put_jobs-requires : goal.put_jobs-requires
put_jobs-requires g c =
    let w = g.W.OrderedWeight in
    let cal = g.C.Calendar in
    let masks = masks_of (cal.end c.args.calendar.now) (cal.mask c.args.calendar.now) in
    let long = length-map-range_with_len (cal.mask c.args.calendar.now) 0 (cal.end c.args.calendar.now) in
    let room = c.requires.room in
    let more = length c.args.rows.now * (9 + w.WIDTH) in
    let behind = room_left (kind_record w.CODE) _ c.put_kind.new.front c.put_kind.ensures.value (length (record_bytes 2 masks) + more) (omega arith) in
    record { stored = c.requires.stored; room = room_left (record_bytes 2 masks) c.put_kind.new.front c.put_calendar.new.front c.put_calendar.ensures.value more behind }

pub returns : goal.returns
returns g c =
    let w = g.W.OrderedWeight in
    let cal = g.C.Calendar in
    let masks = masks_of (cal.end c.args.calendar.now) (cal.mask c.args.calendar.now) in
    let records = job_records w.encoding (jobs_in c.args.rows.now c.args.store.now) in
    let b = c.put_calendar.new.front in
    let z = c.put_jobs.new.front in
    let whole = adds_then (kind_record w.CODE) _ c.put_kind.new.front c.put_kind.ensures.value (record_bytes 2 masks ++ records) z
    (adds_then (record_bytes 2 masks) c.put_kind.new.front b c.put_calendar.ensures.value records z c.put_jobs.ensures.value) in
    record { value = put_ends _ c.args.out.now _ _ z whole.put (search rules) }
