use Rattle.std.proofs.Common.{◌+◌, ap, ◌∙◌, rules}
use borrow.Author.Tests.{tests}
use Rattle.std.proofs.lemmas.Iterator.Search.{any_from_yields_List}
use Rattle.sheets.proofs.JobRecords.{records_cut, numbered, numbered_taken}
use Rattle.sheets.proofs.job_record.number_taken.Goals as goal

pub returns : goal.returns
returns g c jobs e =
    let w = g.W.OrderedWeight in
    let size = c.chunks_exact-parts.ensures.size ∙ ap (λ n. 9 + n) c.WIDTH.ensures in
    let cut = records_cut w.encoding w.WIDTH g.met.W.OrderedWeight.sized jobs c.chunks_exact-parts.result c.args.records.now c.chunks_exact-parts.ensures.rest e size in
    any_from_yields_List (numbered c.args.number) _ _ c.any.result c.any.ensures.ran cut (λ x b q k. search (rules, tests)) ∙ numbered_taken w.encoding c.args.number jobs
