-- Why a calendar is not made. Assumes nothing.
--   EvenFault links end fault        the fault's cause holds of an even calendar, and none that is checked before it
--   ListedFault slots fault          the same of a list of that many slots
--   StretchFault first past fault    the same of a closed stretch
--   calendar_fault_number            the refusal's number: 16, whatever the cause
use Rattle.std.specs.Prelude.{ℕ, ◌<◌, ◌≤◌}
use Rattle.calendars.specs.declared.fault.CalendarFault.{CalendarFault}
use Rattle.calendars.specs.declared.fault.CalendarFault.TheVariants.{TooManyLinks, TooLong, Backwards, PastLastSlot}

abbrev pub EvenFault : (links end : ℕ) → CalendarFault → Type 0
EvenFault links end TooManyLinks = 8 < links
EvenFault links end TooLong = (links ≤ 8) × (1024 < end)
EvenFault links end Backwards = ⊥
EvenFault links end PastLastSlot = ⊥

abbrev pub ListedFault : (slots : ℕ) → CalendarFault → Type 0
ListedFault slots TooManyLinks = ⊥
ListedFault slots TooLong = 1024 < slots
ListedFault slots Backwards = ⊥
ListedFault slots PastLastSlot = ⊥

abbrev pub StretchFault : (first past : ℕ) → CalendarFault → Type 0
StretchFault first past TooManyLinks = ⊥
StretchFault first past TooLong = ⊥
StretchFault first past Backwards = past < first
StretchFault first past PastLastSlot = (first ≤ past) × (1024 < past)

abbrev pub calendar_fault_number : CalendarFault → ℕ
calendar_fault_number TooManyLinks = 16
calendar_fault_number TooLong = 16
calendar_fault_number Backwards = 16
calendar_fault_number PastLastSlot = 16
