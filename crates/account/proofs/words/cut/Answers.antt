use Rattle.std.proofs.Common.{◌+◌, add-one, rules}
use Rattle.std.proofs.lemmas.List.{take_rest}
use Rattle.account.proofs.Cuts.{cut_none, cut_some}
use Rattle.account.proofs.words.cut.Goals as goal

pub returns-in_err-i-clause-value : goal.returns-in_err-i-clause-value
returns-in_err-i-clause-value c =
    let e = cut_none c.args.at c.args.text.now c.in_err-i.ensures in
    search (rules, e)

pub returns-clause-value : goal.returns-clause-value
returns-clause-value c =
    let text = c.args.text.now in
    let i = c.in_ok-i.i in
    rw (take_rest text (i + 1)) (simp add-one (cut_some c.args.at text i c.in_ok-i.ensures))
