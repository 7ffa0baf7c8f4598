use Rattle.std.proofs.Common.{◌<◌, ◌++◌, map, length, Some, vec_items, sym, ap, ◌∙◌, arith, rules}
use Rattle.std.proofs.lemmas.List.{append-nil, nil_from_length}
use Rattle.std.proofs.lemmas.Bool.{eqb-false, eqb-true}
use Rattle.account.specs.Words.{lines_of}
use Rattle.account.specs.Commands.{command_figures, call_figures, calls_ahead}
use Rattle.account.proofs.Ahead.{ahead_more, ahead_end}
use Rattle.account.proofs.reading.calls_ahead.Goals as goal
use Rattle.account.proofs.reading.calls_ahead.Goals.{in_default-via-in-Some+in_default, in_default-via-in_default}

pub loop-rest-preserved : goal.loop-rest-preserved
loop-rest-preserved g c =
    let rest = c.loop-rest.rest.now in
    let ne = eqb-false (length rest) 0 (sym c.loop-rest-test.ensures) in
    let some : 0 < length rest = omega arith in
    ahead_more g.W.WrittenWeight.figures g.W.WrittenWeight.figures_in (calls_ahead g.W.WrittenWeight.figures_in (lines_of c.args.text.now)) (vec_items c.loop-rest.calls) rest some c.loop-rest.invariant
    c.in-Some-Make.call (vec_items c.push.new.self) c.next_line.result.0.now c.next_line.result.1.now
    c.next_line.ensures.line c.next_line.ensures.rest (sym (ap (λ k. Some (command_figures g.W.WrittenWeight.figures k)) c.in-Some-Make.field-0-is) ∙ c.in-Some-Make.ensures) c.in_ok-push.ensures.items

pub returns : goal.returns
returns g c =
    let rest = c.loop-rest.rest.now in
    let none = nil_from_length rest (eqb-true (length rest) 0 (sym c.loop-rest-test.ensures)) in
    let calls = map (call_figures g.W.WrittenWeight.figures) (vec_items c.loop-rest.calls) in
    sym (c.loop-rest.invariant ∙ ap (λ t. calls ++ calls_ahead g.W.WrittenWeight.figures_in (lines_of t)) none ∙ append-nil calls)

pub returns-in_default : goal.returns-in_default
returns-in_default g c =
    let rest = c.loop-rest.rest.now in
    let ne = eqb-false (length rest) 0 (sym c.loop-rest-test.ensures) in
    let some : 0 < length rest = omega arith in
    let end = ahead_end g.W.WrittenWeight.figures g.W.WrittenWeight.figures_in (calls_ahead g.W.WrittenWeight.figures_in (lines_of c.args.text.now)) (vec_items c.loop-rest.calls) rest some c.loop-rest.invariant
    c.command.result c.next_line.result.0.now c.next_line.ensures.line c.command.ensures in
    elim c.in_default.branch [
      | in_default-via-in-Some+in_default w ↦ end (λ call e. search rules)
      | in_default-via-in_default w ↦ end (λ call e. cc)
    ]
