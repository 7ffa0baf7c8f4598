use Rattle.text.proofs.Lines.{printed_once}
use Rattle.text.proofs.printing.print.Goals as goal

pub returns-clause-alone : goal.returns-clause-alone
returns-clause-alone c = printed_once
