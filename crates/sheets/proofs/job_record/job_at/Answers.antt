use Rattle.std.proofs.Common.{◌+◌, ◌-◌, take, drop, ap, ◌∙◌, arith, rules}
use Rattle.sheets.proofs.JobRecords.{value_at, job_at_read}
use Rattle.sheets.proofs.job_record.job_at.Goals as goal

pub returns : goal.returns
returns g c =
    let records = c.args.records.now in
    let rest = c.in_ok-get.field-0.now in
    let record_at = c.in_ok-record.record.now in
    let n = c.WIDTH-size.result in
    let behind = c.in_ok-get.ensures.lookup.0 in
    let front = c.in_ok-record.ensures.lookup.0 in
    let value = value_at records rest record_at c.in_ok-at.at (9 + n) (omega arith) behind.2 front.2 in
    let said = c.ok.ensures.value in
    rw said (job_at_read g.W.OrderedWeight.encoding records _ c.args.k g.W.OrderedWeight.WIDTH n c.job_of.result c.WIDTH-size.ensures (omega arith)
    (value ∙ ap (λ i. take (9 + n - 3) (drop (i + 3) records)) (search rules)) c.job_of.ensures)
