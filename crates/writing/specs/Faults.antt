-- Why a sheet is not written. Assumes nothing.
--   before a b                  job a ranks before job b
--   write_fault_number f        the refusal's number
--   WriteRefused before .. f    f is the first cause against writing: the store's, and only then that the buffer is shorter than the sheet
use Rattle.std.specs.Prelude.{ℕ, ◌<◌, Bool, List}
use Rattle.jobs.specs.declared.terms.Row.{Row}
use Rattle.jobs.specs.declared.terms.Job.{Job}
use Rattle.calls.specs.Faults.{store_fault_number}
use Rattle.questions.specs.Stores.{StoreGood, StoreRefused}
use Rattle.writing.specs.declared.fault.WriteFault.{WriteFault}
use Rattle.writing.specs.declared.fault.WriteFault.TheVariants.{Store, TooShort}

abbrev pub write_fault_number : WriteFault → ℕ
write_fault_number (Store fault) = store_fault_number fault
write_fault_number TooShort = 15

-- `long`: the length of the sheet; `room`: that of the buffer
abbrev pub WriteRefused : {W : Type 0} → (Job W → Job W → Bool) → List Row → List W → (long room : ℕ) → WriteFault → Type 0
WriteRefused before rows store long room (Store fault) = StoreRefused before rows store fault
WriteRefused before rows store long room TooShort = StoreGood before rows store × (room < long)
