use Rattle.std.proofs.Common.{sym, ap, ◌∙◌, add-one, arith}
use Rattle.account.specs.Words.{rest_of, rest_after}
use Rattle.account.proofs.words.past_lines.Goals as goal

pub loop-preserved : goal.loop-preserved
loop-preserved c =
    (c.next_line.ensures.rest ∙ ap rest_of c.loop.invariant.0 ∙ ap (λ n. rest_after n c.args.text.now) (sym (add-one c.loop.counter)), omega arith)
