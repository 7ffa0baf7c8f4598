use Rattle.placing.specs.Orders.{Weighs}
use Rattle.sheets.proofs.OneReading.{one_reading}
use Rattle.host.proofs.Once.{text_once}
use Rattle.host.proofs.texts.texts_are_alone.Goals as goal

pub returns : goal.returns
returns g c =
    let w = g.W.OrderedWeight in
    let met = g.met.W.OrderedWeight in
    let weighs : Weighs w.no_lighter = record { total = met.total; trans = met.transitive } in
    text_once w.CODE w.WIDTH w.encoding w.no_lighter (one_reading w.CODE w.WIDTH w.encoding met.sized met.injective) weighs
