-- Shares as a kind of weight: compared as fractions. Assumes nothing.
--   share_encoding s        the part in two bytes, then the whole in two
--   share_no_lighter s t    s is at least t: s's part times t's whole is at least t's part times s's whole
use Rattle.std.specs.Prelude.{ℕ, ◌*◌, Bool, List, ◌++◌, nat_le}
use Rattle.kinds.specs.Bytes.{high_first}
use Rattle.kinds.specs.declared.share.Share.{Share}

abbrev pub share_encoding : Share → List ℕ
share_encoding s = high_first 2 s.part ++ high_first 2 s.whole

abbrev pub share_no_lighter : Share → Share → Bool
share_no_lighter s t = nat_le (t.part * s.whole) (s.part * t.whole)
