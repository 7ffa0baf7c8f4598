use Rattle.std.proofs.Common.{◌+◌, subst, MatchOption}
use Rattle.sheets.specs.Format.{JobAt}
use Rattle.sheets.proofs.JobRecords.{nth_at}
use Rattle.sheets.proofs.sheet.Sheet.job.Goals as goal

pub returns : goal.returns
returns g c =
    let w = g.W.OrderedWeight in
    let laws = g.met.W.OrderedWeight in
    record {
      value = c.job_at.ensures;
      listed = λ jobs e. nth_at w.encoding w.WIDTH laws.sized laws.injective jobs c.args.k c.job_at.result
          (subst (λ l. MatchOption c.job_at.result ((job : _) → JobAt w.encoding (9 + w.WIDTH) l c.args.k job → ⊥) (λ job. JobAt w.encoding (9 + w.WIDTH) l c.args.k job)) e c.job_at.ensures);
    }
