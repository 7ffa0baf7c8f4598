use Rattle.std.proofs.Common.{arith, rules}
use Rattle.sheets.proofs.Steps.{table_answered, job_read}
use Rattle.sheets.proofs.reader.check_job.Goals as goal

pub returns : goal.returns
returns g c before e few =
    let w = g.W.OrderedWeight in
    job_read w.CODE w.WIDTH w.encoding before c.args.sheet.now c.args.at c.WIDTH-size.result c.WIDTH-size.ensures c.in_ok-value.value.now (search rules)
    c.in_ok-job.job (search rules) c.args.count few c.number_taken-taken.result (c.number_taken-taken.ensures before e) (omega arith) (search rules)

pub returns-in_err-map_err : goal.returns-in_err-map_err
returns-in_err-map_err g c before e few =
    let w = g.W.OrderedWeight in
    table_answered w.CODE w.WIDTH w.encoding before c.args.sheet.now c.args.at c.WIDTH-size.result c.WIDTH-size.ensures c.in_ok-value.value.now (search rules)
    c.in_ok-job.job (search rules) c.args.count few c.number_taken-taken.result (c.number_taken-taken.ensures before e)
    _ c.admission.result c.in_err-map_err.field-0.0 c.from_residual-in_err-map_err.result c.admission.ensures (search rules) (search rules)
