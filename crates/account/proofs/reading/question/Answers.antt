use Rattle.std.proofs.Common.{◌≡◌, codes, arith, rules}
use Rattle.std.proofs.lemmas.Slice.Eq.{text_from_reads}
use Rattle.account.proofs.reading.question.Goals as goal

pub returns-in-standing : goal.returns-in-standing
returns-in-standing c =
    let e : c.args.name.now ≡ codes "standing" = text_from_reads _ _ (omega arith) (search rules) in
    rw e (search rules)

pub returns-in-stretch : goal.returns-in-stretch
returns-in-stretch c =
    let e : c.args.name.now ≡ codes "stretch" = text_from_reads _ _ (omega arith) (search rules) in
    rw e (search rules)
