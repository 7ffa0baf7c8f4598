-- The kinds that a sheet may name. Assumes nothing.
--   kind_code       the code of a kind in a sheet
--   Offered         the code of one of the three kinds
--   KindRead code   the kind with this code, or the fault of a code that no kind has
use Rattle.std.specs.Prelude.{◌≡◌, ℕ, ◌≤◌, Result, MatchResult}
use Rattle.sheets.specs.declared.fault.SheetFault.{SheetFault}
use Rattle.sheets.specs.declared.fault.SheetFault.TheVariants.{OtherKind}
use Rattle.sheets.specs.declared.kind.Kind.{Kind}
use Rattle.sheets.specs.declared.kind.Kind.TheVariants.{Points, Classed, Share}

abbrev pub kind_code : Kind → ℕ
kind_code Points = 1
kind_code Classed = 2
kind_code Share = 3

abbrev pub Offered : ℕ → Type 0
Offered code = (1 ≤ code) × (code ≤ 3)

abbrev pub KindRead : ℕ → Result Kind SheetFault → Type 0
KindRead code answer = MatchResult answer (λ kind. kind_code kind ≡ code) (λ fault. (fault ≡ OtherKind) × (Offered code → ⊥))
