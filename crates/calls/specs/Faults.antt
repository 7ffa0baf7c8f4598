-- The number of each refusal. Assumes nothing.
use Rattle.std.specs.Prelude.{ℕ}
use Rattle.jobs.specs.Admission.{table_fault_number}
use Rattle.calls.specs.declared.terms.StoreFault.{StoreFault}
use Rattle.calls.specs.declared.terms.StoreFault.TheVariants.{TooShort, OutOfRank}
use Rattle.calls.specs.declared.terms.CallFault.{CallFault}
use Rattle.calls.specs.declared.terms.CallFault.TheVariants as calls
use Rattle.calls.specs.declared.terms.StretchFault.{StretchFault}
use Rattle.calls.specs.declared.terms.StretchFault.TheVariants as stretches

abbrev pub store_fault_number : StoreFault → ℕ
store_fault_number TooShort = 14
store_fault_number OutOfRank = 6

abbrev pub call_fault_number : CallFault → ℕ
call_fault_number (calls.Store fault) = store_fault_number fault
call_fault_number (calls.Table fault) = table_fault_number fault
call_fault_number calls.NumberUnknown = 12

abbrev pub stretch_fault_number : StretchFault → ℕ
stretch_fault_number stretches.NumberUnknown = 12
stretch_fault_number stretches.JobKept = 13
