use Rattle.std.proofs.Common.{rules}
use Rattle.std.proofs.lemmas.Result.{err_from_is_err_and}
use Rattle.sheets.proofs.OneReading.{one_reading}
use Rattle.sheets.proofs.Whole.{begun_from, jobs_refused_whole}
use Rattle.sheets.proofs.reader.read.Goals as goal

pub returns-in_err-count-clause-value : goal.returns-in_err-count-clause-value
returns-in_err-count-clause-value g c =
    let w = g.W.OrderedWeight in
    let sheet = c.args.sheet.now in
    let masks = c.in_ok-masks.masks.now in
    let begun = begun_from sheet masks c.in_ok-code.code c.CODE.result w.CODE (search rules) c.if-code-CODE.false c.CODE.ensures (search rules) in
    let p = err_from_is_err_and c.from_residual-in_err-count.result c.from_residual-in_err-count.ensures.1 in
    rw (p.1, p.2) (jobs_refused_whole w.CODE w.WIDTH w.encoding sheet masks begun c.in_err-count.field-0.0 c.in_err-count.ensures)

pub returns-in_err-count-clause-alone : goal.returns-in_err-count-clause-alone
returns-in_err-count-clause-alone g c =
    let w = g.W.OrderedWeight in
    one_reading w.CODE w.WIDTH w.encoding g.met.W.OrderedWeight.sized g.met.W.OrderedWeight.injective

pub returns-clause-alone : goal.returns-clause-alone
returns-clause-alone g c =
    let w = g.W.OrderedWeight in
    one_reading w.CODE w.WIDTH w.encoding g.met.W.OrderedWeight.sized g.met.W.OrderedWeight.injective
