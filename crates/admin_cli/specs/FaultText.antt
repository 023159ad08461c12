-- The words for a fault, after `line K: `.
use Rattle.std.specs.Prelude.{ℕ, List, codes}
use Rattle.admin_cli.specs.declared.faults.FaultKind.{FaultKind}
use Rattle.admin_cli.specs.declared.faults.FaultKind.TheVariants.{NotCommand, TooLong, ReadFault, WriteFault, OutOfMemory}

-- the words for each kind
abbrev pub fault_text : FaultKind → List ℕ
fault_text NotCommand = codes "not a command"
fault_text TooLong = codes "too long"
fault_text ReadFault = codes "read fault"
fault_text WriteFault = codes "write fault"
fault_text OutOfMemory = codes "out of memory"
