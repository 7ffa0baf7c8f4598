use Rattle.std.proofs.Common.{arith, rules}
use Rattle.std.proofs.lemmas.List.{take_rest}
use Rattle.sheets.specs.Tags.{tag_byte}
use Rattle.sheets.proofs.Records.{tag_known, value_read}
use Rattle.sheets.proofs.record.record_value.Goals as goal

pub returns : goal.returns
returns c =
    value_read (tag_byte c.args.wanted) c.args.least c.args.most c.from-length.result c.args.rest.now _ c.get.result
    (omega arith) (search rules) (tag_known c.args.wanted) (omega (arith, c.type_inv.rest 2)) (search rules) (search rules) (search rules) (take_rest c.args.rest.now 3) c.get.ensures.lookup
    c.ok_or.result c.ok_or.ensures.value
