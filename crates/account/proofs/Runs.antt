-- The text of a run, one answer on and at the end.
use Rattle.std.proofs.Common.{◌≡◌, ℕ, ◌+◌, ◌<◌, ◌≤◌, Bool, List, ◌++◌, length, get_or, drop, Option, Result, sym, ap, ◌∙◌}
use Rattle.std.proofs.lemmas.List.{append-nil, append_assoc, drop_more, drop_all}
use Rattle.calls.specs.declared.terms.CallFault.{CallFault}
use Rattle.account.specs.Words.{line_of, rest_of}
use Rattle.account.specs.Texts.{answer_text, answered_line, run_text}

module _ (whole : List ℕ) (answers : List (Result (Bool × Option ℕ) CallFault)) (i : ℕ) where
  pub run_more : (d : Result (Bool × Option ℕ) CallFault) (said rest more all after : List ℕ) → i < length answers → whole ≡ said ++ run_text rest (drop i answers)
      → more ≡ answered_line (line_of rest) (answer_text (get_or answers i d)) → all ≡ said ++ more → after ≡ rest_of rest → whole ≡ all ++ run_text after (drop (i + 1) answers)
  run_more d said rest more all after h before is longer follows =
      before
      ∙ ap (λ l. said ++ run_text rest l) (drop_more answers i d h)
      ∙ ap (λ l. said ++ (l ++ run_text (rest_of rest) (drop (i + 1) answers))) (sym is)
      ∙ sym (append_assoc said more (run_text (rest_of rest) (drop (i + 1) answers)))
      ∙ ap (λ l. l ++ run_text (rest_of rest) (drop (i + 1) answers)) (sym longer)
      ∙ ap (λ t. all ++ run_text t (drop (i + 1) answers)) (sym follows)

  pub run_all : (said rest : List ℕ) → length answers ≤ i → whole ≡ said ++ run_text rest (drop i answers) → said ≡ whole
  run_all said rest h e = sym (e ∙ ap (λ l. said ++ run_text rest l) (drop_all i answers h) ∙ append-nil said)
