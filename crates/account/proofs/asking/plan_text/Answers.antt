use Rattle.std.proofs.Common.{◌++◌, None, string_bytes, ap, ◌∙◌, arith}
use Rattle.jobs.specs.declared.terms.Row.{Row}
use Rattle.plan.specs.Plans.{rows_in}
use Rattle.account.proofs.Printing.{printed_more, printed_all}
use Rattle.account.proofs.asking.plan_text.Goals as goal

abbrev blank : Row
blank = record { number = 0; ready = 0; deadline = 0; seat = None }

pub loop-row-preserved : goal.loop-row-preserved
loop-row-preserved c =
    printed_more (rows_in c.args.plan.now) c.rows-row-items.result.now c.loop-row.row-index blank c.stretch.result
    (string_bytes c.loop-row.text) (string_bytes c.in_ok-line.line) (string_bytes c.push_str.new.self)
    (omega arith) c.loop-row.invariant c.stretch.ensures.value c.in_ok-line.ensures
    (c.in_ok-push_str.ensures.bytes ∙ ap (λ l. string_bytes c.loop-row.text ++ l) c.as_str.ensures.value)

pub returns : goal.returns
returns c =
    printed_all (rows_in c.args.plan.now) c.rows-row-items.result.now c.loop-row.row-index (string_bytes c.loop-row.text) c.rows-row-items.ensures.value (omega arith) c.loop-row.invariant
