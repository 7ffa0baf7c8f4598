use Rattle.std.proofs.Common.{rules}
use Rattle.calendars.proofs.Meanings.{evenly_open}
use Rattle.calendars.proofs.even.Even.new.Goals as goal

pub returns : goal.returns
returns c = let meaning = evenly_open c.args.links c.args.end in search rules
