use Rattle.std.proofs.Common.{◌*◌, ◌≤◌}
use Rattle.arrayvec.specs.ArrayString.{array_string_len}
use Rattle.text.specs.Printing.{Lines}
use Rattle.text.proofs.printing.push_rows.Given as goal

abbrev pub invariant-loop-rank : goal.invariant-loop-rank
invariant-loop-rank g l = record { short : array_string_len l.text ≤ 20 * l.rank; lines : Lines l.rows l.rank l.text.bytes }
