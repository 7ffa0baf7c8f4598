-- The number of a buffer's refusal. Assumes nothing.
--   buffer_fault_number    15: the output buffer is too short
use Rattle.std.specs.Prelude.{ℕ}
use Rattle.text.specs.declared.fault.BufferFault.{BufferFault}
use Rattle.text.specs.declared.fault.BufferFault.TheVariants.{TooShort}

abbrev pub buffer_fault_number : BufferFault → ℕ
buffer_fault_number TooShort = 15
