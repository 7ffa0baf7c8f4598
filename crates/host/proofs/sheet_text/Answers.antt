use Rattle.std.proofs.Common.{inl}
use Rattle.host.proofs.sheet_text.Goals as goal

pub returns-in-Ok-clause-cases : goal.returns-in-Ok-clause-cases
returns-in-Ok-clause-cases c =
    let text = c.text_as.ensures.cases in
    (text.0, (text.1.0, inl (c.in-Ok.kind, c.in-Ok.ensures, text.1.1), text.1.2))
