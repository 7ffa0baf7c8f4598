use Rattle.std.proofs.Common.{arith}
use Rattle.sheets.proofs.Fronts.{front_decides}
use Rattle.sheets.proofs.front.deciding_front.Goals as goal

pub returns : goal.returns
returns g c =
    let w = g.W.OrderedWeight in
    record {
      value = omega arith;
      decides = λ front enough. front_decides w.CODE w.WIDTH w.encoding g.met.W.OrderedWeight.sized front (omega arith);
    }
