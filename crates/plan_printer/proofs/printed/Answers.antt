use Rattle.std.proofs.Common.{◌≡◌, sym, subst, arith}
use Rattle.std.proofs.lemmas.Grind.{common_steps}
use Rattle.host.specs.Texts.{SheetText}
use Rattle.plan_printer.proofs.printed.Goals as goal

pub returns : goal.returns
returns c =
    let cases = c.in_ok-told.ensures.cases in
    let handed = cases.1.2 in
    let cut : c.truncate.new.self.items ≡ cases.1.0 = grind (arith, common_steps) in
    subst (λ r. SheetText c.args.sheet.now r c.truncate.new.self.items) (sym handed.1)
    (subst (SheetText c.args.sheet.now cases.0) (sym cut) cases.1.1)
