-- The numbers of refusals.
use Rattle.std.specs.Prelude.{ℕ}
use Rattle.mds_types.specs.declared.refusals.Refusal.{Refusal}
use Rattle.mds_types.specs.declared.refusals.Refusal.TheVariants.{NoMemory, StoreFault, NoInodes, Trimmed, NotAuthority, Frozen, Pinned, NoSuchFrag, BadSplit, TooManyFrags, StaleJob, JobOutstanding, WrongExportState, InboxEmpty, InboxFull, NothingToEvict, Damaged, NotClean}

-- the number of a refusal, as the script prints it (this project's own profile)
abbrev pub refusal_number : Refusal → ℕ
refusal_number NoMemory = 1
refusal_number StoreFault = 2
refusal_number NoInodes = 3
refusal_number Trimmed = 4
refusal_number NotAuthority = 5
refusal_number Frozen = 6
refusal_number Pinned = 7
refusal_number NoSuchFrag = 8
refusal_number BadSplit = 9
refusal_number TooManyFrags = 10
refusal_number StaleJob = 11
refusal_number JobOutstanding = 12
refusal_number WrongExportState = 13
refusal_number InboxEmpty = 14
refusal_number InboxFull = 15
refusal_number NothingToEvict = 16
refusal_number (Damaged object) = 17
refusal_number NotClean = 18
