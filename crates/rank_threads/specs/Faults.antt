-- The numbers of run faults.
use Rattle.std.specs.Prelude.{ℕ}
use Rattle.rank_threads.specs.declared.outcomes.RunFault.{RunFault}
use Rattle.rank_threads.specs.declared.outcomes.RunFault.TheVariants.{NoMemory, Spawn, Strayed}

-- memory was refused; a thread couldn't be made; the history doesn't hold a receipt
abbrev pub run_fault_number : RunFault → ℕ
run_fault_number NoMemory = 1
run_fault_number Spawn = 2
run_fault_number Strayed = 3
