use Rattle.std.proofs.Common.{◌++◌, vec_items, string_bytes, ap, ◌∙◌, arith}
use Rattle.std.specs.List.{flat_map}
use Rattle.sheet_check.specs.Accounts.{job_line}
use Rattle.sheet_check.proofs.Lines.{lines_none, lines_more, lines_all}
use Rattle.sheet_check.proofs.account.account.Goals as goal

pub loop-job-init : goal.loop-job-init
loop-job-init g c = lines_none (job_line g.W.PrintedWeight.written) (string_bytes c.in_ok-text.text) c.as_slice-job-items.result.now

pub loop-job-preserved : goal.loop-job-preserved
loop-job-preserved g c =
    lines_more (job_line g.W.PrintedWeight.written) (string_bytes c.in_ok-text.text) c.as_slice-job-items.result.now
    (string_bytes c.loop-job.text) (string_bytes c.in_ok-line.line) (string_bytes c.push_str.new.self) c.loop-job.job-index c.job-item.result
    c.loop-job.invariant (c.in_ok-push_str.ensures.bytes ∙ ap (λ l. string_bytes c.loop-job.text ++ l) c.as_str.ensures.value) c.in_ok-line.ensures c.job-item.is (omega arith)

pub returns : goal.returns
returns g c =
    let line = job_line g.W.PrintedWeight.written in
    let head = string_bytes c.in_ok-text.text in
    let items = c.as_slice-job-items.result.now in
    let ranked = c.in_ok-ranked.ranked in
    record {
      ranked = vec_items ranked;
      order = c.in_ok-ranked.ensures.0;
      all = c.in_ok-ranked.ensures.1;
      bytes = lines_all line head items (string_bytes c.loop-job.text) c.loop-job.job-index c.loop-job.invariant (omega arith)
          ∙ ap (λ l. head ++ flat_map line l) c.as_slice-job-items.ensures.value ∙ ap (λ l. l ++ flat_map line (vec_items ranked)) c.in_ok-text.ensures;
    }
