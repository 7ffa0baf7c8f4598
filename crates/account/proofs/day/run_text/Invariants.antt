use Rattle.std.proofs.Common.{◌≡◌, ◌++◌, drop, vec_items}
use Rattle.account.specs.Texts.{run_text}
use Rattle.account.proofs.day.run_text.Given as goal

-- what is said so far, and what is left to say
abbrev pub invariant-loop-answer : goal.invariant-loop-answer
invariant-loop-answer l = run_text l.text l.answers ≡ vec_items l.all ++ run_text l.rest (drop l.answer-index l.answers)
