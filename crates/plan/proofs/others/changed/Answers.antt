use Rattle.std.proofs.Common.{◌<◌, length, is_some, ap, ◌∙◌, rules}
use Rattle.std.proofs.lemmas.List.{places}
use Rattle.plan.specs.Tables.{rows_of}
use Rattle.plan.proofs.Rows.{distinct_apart}
use Rattle.plan.proofs.Standings.{flags_compared}
use Rattle.plan.proofs.others.changed.Goals as goal

pub returns-in-Some : goal.returns-in-Some
returns-in-Some c =
    let before = rows_of c.args.before.now in
    let after = rows_of c.args.after.now in
    let l : c.args.rank < length after = search (rules, places) in
    let m : c.in-Some.was < length before = search (rules, places) in
    let found = c.in-Some.ensures.cases in
    record {
      answers = flags_compared before after (distinct_apart before c.args.before.now.distinct) (distinct_apart after c.args.after.now.distinct) c.args.rank l c.in-Some.was m
          (found.1 ∙ ap (λ r. r.number) c.row-row.ensures.value)
          c.is_some.result c.is_some-in-Some.result
          (c.is_some.ensures ∙ ap (λ r. is_some r.seat) c.row.ensures.value) (c.is_some-in-Some.ensures ∙ ap (λ r. is_some r.seat) c.row-row.ensures.value);
    }
