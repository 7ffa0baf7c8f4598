use Rattle.std.proofs.Common.{◌≡◌, codes, sym, ap, arith, rules}
use Rattle.std.proofs.lemmas.Slice.Eq.{text_from_reads}
use Rattle.account.specs.Settings.{kind_of}
use Rattle.account.proofs.settings.kind_named.Goals as goal

pub returns-in-points : goal.returns-in-points
returns-in-points c =
    let e : c.args.name.now ≡ codes "points" = text_from_reads _ _ (omega arith) (search rules) in
    sym (ap kind_of e)

pub returns-in-classed : goal.returns-in-classed
returns-in-classed c =
    let e : c.args.name.now ≡ codes "classed" = text_from_reads _ _ (omega arith) (search rules) in
    sym (ap kind_of e)
