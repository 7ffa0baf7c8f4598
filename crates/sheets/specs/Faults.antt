-- The number and the values of every fault of loading. Assumes nothing.
--   sheet_fault_number    the number of a fault of the reader's own
--   load_fault_number     the number of any fault
--   load_fault_byte       the byte of the refused record's tag
--   load_fault_job        the number of the job, where the table refused it
use Rattle.std.specs.Prelude.{ℕ, Some, None, Option}
use Rattle.jobs.specs.Admission.{table_fault_number, table_fault_job}
use Rattle.sheets.specs.declared.fault.SheetFault.{SheetFault}
use Rattle.sheets.specs.declared.fault.SheetFault.TheVariants.{EndsInside, UnknownTag, OutOfOrder, OtherKind, WrongLength, NoWeight}
use Rattle.sheets.specs.declared.fault.LoadFault.{LoadFault}
use Rattle.sheets.specs.declared.fault.LoadFault.TheVariants.{Sheet, Table}

abbrev pub sheet_fault_number : SheetFault → ℕ
sheet_fault_number EndsInside = 1
sheet_fault_number UnknownTag = 2
sheet_fault_number OutOfOrder = 3
sheet_fault_number OtherKind = 4
sheet_fault_number WrongLength = 5
sheet_fault_number NoWeight = 7

abbrev pub load_fault_number : LoadFault → ℕ
load_fault_number (Sheet fault byte) = sheet_fault_number fault
load_fault_number (Table fault byte) = table_fault_number fault

abbrev pub load_fault_byte : LoadFault → ℕ
load_fault_byte (Sheet fault byte) = byte
load_fault_byte (Table fault byte) = byte

abbrev pub load_fault_job : LoadFault → Option ℕ
load_fault_job (Sheet fault byte) = None
load_fault_job (Table fault byte) = Some (table_fault_job fault)
