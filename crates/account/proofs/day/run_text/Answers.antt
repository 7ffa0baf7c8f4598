use Rattle.std.proofs.Common.{false, None, Ok, vec_items, ap, ◌∙◌, arith}
use Rattle.account.specs.Words.{line_of}
use Rattle.account.specs.Texts.{answered_line, run_text}
use Rattle.account.proofs.Runs.{run_more, run_all}
use Rattle.account.proofs.day.run_text.Goals as goal

pub loop-answer-preserved : goal.loop-answer-preserved
loop-answer-preserved c =
    let rest = c.loop-answer.rest.now in
    let words = c.as_str.ensures.value ∙ c.in_ok-words.ensures in
    run_more (run_text c.args.text.now c.args.answers.now) c.args.answers.now c.loop-answer.answer-index (Ok (false, None))
    (vec_items c.loop-answer.all) rest c.as_slice.result.now (vec_items c.extend_from_slice.new.self) c.next_line.result.1.now
    (omega arith) c.loop-answer.invariant
    (c.as_slice.ensures.value ∙ c.in_ok-said.ensures ∙ ap (λ l. answered_line l c.as_str.result.now) c.next_line.ensures.line ∙ ap (answered_line (line_of rest)) words)
    c.in_ok-extend_from_slice.ensures.items c.next_line.ensures.rest

pub returns : goal.returns
returns c =
    run_all (run_text c.args.text.now c.args.answers.now) c.args.answers.now c.loop-answer.answer-index
    (vec_items c.loop-answer.all) c.loop-answer.rest.now (omega arith) c.loop-answer.invariant
