-- The tags of a sheet's records. Assumes nothing.
--   tag_byte       the byte that begins a record with the tag
--   TagRead byte   the tag with this byte, or the fault of a byte that begins no record
use Rattle.std.specs.Prelude.{◌≡◌, ℕ, Result, MatchResult}
use Rattle.sheets.specs.declared.fault.SheetFault.{SheetFault}
use Rattle.sheets.specs.declared.fault.SheetFault.TheVariants.{UnknownTag}
use Rattle.sheets.specs.declared.tag.Tag.{Tag}
use Rattle.sheets.specs.declared.tag.Tag.TheVariants.{Kind, Calendar, Job}
use Rattle.sheets.specs.Format.{Known}

abbrev pub tag_byte : Tag → ℕ
tag_byte Kind = 1
tag_byte Calendar = 2
tag_byte Job = 3

abbrev pub TagRead : ℕ → Result Tag SheetFault → Type 0
TagRead byte answer = MatchResult answer (λ tag. tag_byte tag ≡ byte) (λ fault. (fault ≡ UnknownTag) × (Known byte → ⊥))
