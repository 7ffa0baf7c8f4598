-- The text that a sheet gets: its printed plan, or the line of its refusal. Assumes nothing.
--   RefusalText fault text          the refusal line of a fault: its number, and the byte of the record that is refused
--   PlanText .. sheet text          the sheet is read, and the text is that of the plan of its jobs under its calendar, which ends where its masks do
--   TextOf .. sheet refused text    the text for a kind: of the plan, or of the refusal where the reader refuses the sheet
--   TextOnce ..                     no sheet has two texts for the kind
--   TextAs kind sheet ..            the same as TextOf, for a kind by its name
--   SheetText sheet refused text    the text of the sheet, by the kind that its first record names
--   SheetTextOnce                   no sheet has two texts: its bytes settle each byte of its text, and whether it is a refusal
--   Handed text before after r      the text stands at the buffer's front, the rest of which is as before, and r tells its length and whether it is a refusal;
--                                   or the text is longer than the buffer, which is as it was
--   Answered text before after r    the same for a host: r is the text's length, or −15
use Rattle.std.specs.Prelude.{◌≡◌, ℕ, ◌<◌, ◌≤◌, Bool, true, false, ◌⊎◌, List, ◌++◌, length, drop, ℤ, pos, negsuc, Ok, Err, Result}
use Rattle.calendars.specs.Masks.{listed_mask}
use Rattle.jobs.specs.declared.terms.Row.{Row}
use Rattle.kinds.specs.PointsKind.{points_encoding, points_no_lighter}
use Rattle.kinds.specs.ClassedKind.{classed_encoding, classed_no_lighter}
use Rattle.kinds.specs.ShareKind.{share_encoding, share_no_lighter}
use Rattle.calls.specs.Moments.{in_force, at, SoundAt}
use Rattle.sheets.specs.declared.fault.LoadFault.{LoadFault}
use Rattle.sheets.specs.declared.kind.Kind.{Kind}
use Rattle.sheets.specs.declared.kind.Kind.TheVariants.{Points, Classed, Share}
use Rattle.sheets.specs.Faults.{load_fault_number, load_fault_byte}
use Rattle.sheets.specs.Format.{kind_record, Accepted, Refused, KindRefused}
use Rattle.sheets.specs.Kinds.{kind_code, Offered}
use Rattle.text.specs.declared.fault.BufferFault.{BufferFault}
use Rattle.text.specs.declared.fault.BufferFault.TheVariants.{TooShort}
use Rattle.text.specs.Printing.{Printed, refusal_line}
use Rattle.host.specs.declared.terms.SheetText.{SheetText as Handing}

abbrev pub RefusalText : LoadFault → List ℕ → Type 0
RefusalText fault text = text ≡ refusal_line (load_fault_number fault) (load_fault_byte fault)

-- a kind of weight stands here by its code, the width of its weights, their bytes and their relation
module _ {W : Type 0} (code width : ℕ) (encoding : W → List ℕ) (no_lighter : W → W → Bool) where
  pub record PlanText (sheet text : List ℕ) : Type 0 where
    pub masks : List ℕ
    pub records : List ℕ
    pub count : ℕ
    pub read : Accepted code width encoding sheet masks records count
    pub rows : List Row
    pub store : List W
    pub sound : SoundAt (in_force no_lighter (listed_mask masks)) read.jobs (at rows store)
    pub printed : Printed rows text

  abbrev pub TextOf : (sheet : List ℕ) (refused : Bool) (text : List ℕ) → Type 0
  TextOf sheet false text = PlanText sheet text
  TextOf sheet true text = (fault : LoadFault) × Refused code width encoding sheet fault × RefusalText fault text

  abbrev pub TextOnce : Type 0
  TextOnce = (sheet : List ℕ) (refused refused' : Bool) (text text' : List ℕ) → TextOf sheet refused text → TextOf sheet refused' text' → (refused ≡ refused') × (text ≡ text')

abbrev pub TextAs : Kind → (sheet : List ℕ) (refused : Bool) (text : List ℕ) → Type 0
TextAs Points = TextOf 1 4 points_encoding points_no_lighter
TextAs Classed = TextOf 2 3 classed_encoding classed_no_lighter
TextAs Share = TextOf 3 4 share_encoding share_no_lighter

abbrev pub SheetText : (sheet : List ℕ) (refused : Bool) (text : List ℕ) → Type 0
SheetText sheet refused text =
    ((kind : Kind) × ((rest : List ℕ) × (sheet ≡ kind_record (kind_code kind) ++ rest)) × TextAs kind sheet refused text)
    ⊎ ((refused ≡ true) × ((fault : LoadFault) × KindRefused Offered sheet fault × RefusalText fault text))

abbrev pub SheetTextOnce : Type 0
SheetTextOnce = (sheet : List ℕ) (refused refused' : Bool) (text text' : List ℕ) → SheetText sheet refused text → SheetText sheet refused' text' → (refused ≡ refused') × (text ≡ text')

abbrev pub Handed : (refused : Bool) (text before after : List ℕ) → Result Handing BufferFault → Type 0
Handed refused text before after (Ok s) = (s.length ≡ length text) × (s.refused ≡ refused) × (after ≡ text ++ drop s.length before)
Handed refused text before after (Err TooShort) = (length before < length text) × (after ≡ before)

abbrev pub Answered : (text before after : List ℕ) → ℤ → Type 0
Answered text before after r = ((length text ≤ length before) × (r ≡ pos (length text)) × (after ≡ text ++ drop (length text) before))
    ⊎ ((length before < length text) × (r ≡ negsuc 14) × (after ≡ before))
