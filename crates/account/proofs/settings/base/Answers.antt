use Rattle.std.proofs.Common.{◌≡◌, codes, arith, rules}
use Rattle.std.proofs.lemmas.Slice.Eq.{text_from_reads}
use Rattle.account.proofs.settings.base.Goals as goal

pub returns-in-Some-calendar-default : goal.returns-in-Some-calendar-default
returns-in-Some-calendar-default c =
    let e : c.in-Some-calendar-default.field-0-0.now ≡ codes "calendar" = text_from_reads _ _ (omega arith) (search rules) in
    search rules
