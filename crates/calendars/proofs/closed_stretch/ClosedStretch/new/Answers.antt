use Rattle.std.proofs.Common.{refl, arith}
use Rattle.calendars.proofs.Meanings.{closed_in}
use Rattle.calendars.proofs.closed_stretch.ClosedStretch.new.Goals as goal

pub returns : goal.returns
returns g c =
    let meaning = closed_in c.args.first c.args.past c.args.links (g.C.Calendar.mask c.args.below) (omega arith) (omega arith) in
    record { cases = (omega arith, omega arith, refl, refl, refl, refl, meaning) }
