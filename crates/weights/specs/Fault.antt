-- The number of each cause why something is no weight. Assumes nothing.
use Rattle.std.specs.Prelude.{ℕ}
use Rattle.weights.specs.declared.fault.WeightFault.{WeightFault}
use Rattle.weights.specs.declared.fault.WeightFault.TheVariants.{NoWeight}

abbrev pub weight_fault_number : WeightFault → ℕ
weight_fault_number NoWeight = 7
