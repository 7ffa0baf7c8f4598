use Rattle.std.proofs.Common.{arith}
use Rattle.std.proofs.lemmas.Result.{err_from_is_err_and}
use Rattle.sheets.proofs.Steps.{jobs_read_more, jobs_refused}
use Rattle.sheets.proofs.reader.check_jobs.Goals as goal

pub returns-in_err-at : goal.returns-in_err-at
returns-in_err-at g c =
    let w = g.W.OrderedWeight in
    let r = c.loop-at.invariant in
    let said = c.in_err-at.ensures r.jobs r.bytes r.number in
    let p = err_from_is_err_and c.from_residual.result c.from_residual.ensures.1 in
    rw (p.1, p.2) (jobs_refused w.CODE w.WIDTH w.encoding c.args.sheet.now c.args.first c.loop-at.at c.loop-at.count c.in_err-at.field-0.0 r (omega arith) said.0 said.1)

pub loop-at-preserved : goal.loop-at-preserved
loop-at-preserved g c =
    let w = g.W.OrderedWeight in
    let r = c.loop-at.invariant in
    jobs_read_more w.CODE w.WIDTH w.encoding c.args.sheet.now c.args.first c.loop-at.at c.loop-at.count c.in_ok-at.at r
    (c.in_ok-at.ensures r.jobs r.bytes r.number)
