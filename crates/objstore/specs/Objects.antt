-- What a store holds: objects by their names.
use Rattle.std.specs.Prelude.{ℕ, ◌<◌, List, Option, Some, None, Bool, map, filter, take, length, nat_lt}
use Rattle.std.specs.Option.{option_map, unwrap_or}
use Rattle.std.specs.FinMap as finmap
use Rattle.mds_types.specs.Step.{is_after}
use Rattle.mds_types.specs.declared.refusals.Refusal.{Refusal}
use Rattle.mds_types.specs.declared.refusals.Refusal.TheVariants.{NoMemory, StoreFault, NoInodes, Trimmed, NotAuthority, Frozen, Pinned, NoSuchFrag, BadSplit, TooManyFrags, StaleJob, JobOutstanding, WrongExportState, InboxEmpty, InboxFull, NothingToEvict, Damaged, NotClean}
use Rattle.objstore.specs.declared.write_ops.WriteOp.{WriteOp}
use Rattle.objstore.specs.Omap.{Omap, PairPage, key_cmp, empty_omap, page_of}
use Rattle.objstore.specs.Writes.{applied}

-- names and their objects; names are ordered by their bytes
abbrev pub Objects : Type 0
Objects = finmap.FinMap key_cmp Omap

-- the header of an object, if the object is there
abbrev pub header_at : Objects → List ℕ → Option (List ℕ)
header_at objects name = option_map (λ (o : Omap). o.header) (finmap.get objects name)

-- the next pairs of an object after a key, if the object is there
abbrev pub page_at : Objects → List ℕ → Option (List ℕ) → ℕ → Option PairPage
page_at objects name after max = option_map (λ (o : Omap). page_of o.pairs after max) (finmap.get objects name)

-- the objects after an operation on one of them; an object that isn't there is made
unfoldable pub written : Objects → List ℕ → WriteOp → Objects
written objects name op = finmap.insert objects name (applied op (unwrap_or (finmap.get objects name) empty_omap))

-- the names greater than `after`, in order; all names, if none is given
unfoldable pub object_names_after : Objects → Option (List ℕ) → List (List ℕ)
object_names_after objects after = map (λ e. e.0) (filter (λ e. is_after after e.0) (finmap.entries objects))

-- some names in order, and whether more follow
pub record NameList : Type 0 where
  pub names : List (List ℕ)
  pub more : Bool

-- the first `max` of some names
abbrev pub first_names : ℕ → List (List ℕ) → NameList
first_names max names = record { names = take max names; more = nat_lt max (length names) }

-- why a store may refuse a call: want of memory, or a fault of its own, and then its count of faults rose in the call
abbrev pub MayRefuse : ℕ → ℕ → Refusal → Type 0
MayRefuse before after NoMemory = Unit {0}
MayRefuse before after StoreFault = before < after
MayRefuse before after NoInodes = ⊥
MayRefuse before after Trimmed = ⊥
MayRefuse before after NotAuthority = ⊥
MayRefuse before after Frozen = ⊥
MayRefuse before after Pinned = ⊥
MayRefuse before after NoSuchFrag = ⊥
MayRefuse before after BadSplit = ⊥
MayRefuse before after TooManyFrags = ⊥
MayRefuse before after StaleJob = ⊥
MayRefuse before after JobOutstanding = ⊥
MayRefuse before after WrongExportState = ⊥
MayRefuse before after InboxEmpty = ⊥
MayRefuse before after InboxFull = ⊥
MayRefuse before after NothingToEvict = ⊥
MayRefuse before after (Damaged object) = ⊥
MayRefuse before after NotClean = ⊥

-- how many faults an answer tells: one, where it is refused by a fault
abbrev pub faults_in : Refusal → ℕ
faults_in NoMemory = 0
faults_in StoreFault = 1
faults_in NoInodes = 0
faults_in Trimmed = 0
faults_in NotAuthority = 0
faults_in Frozen = 0
faults_in Pinned = 0
faults_in NoSuchFrag = 0
faults_in BadSplit = 0
faults_in TooManyFrags = 0
faults_in StaleJob = 0
faults_in JobOutstanding = 0
faults_in WrongExportState = 0
faults_in InboxEmpty = 0
faults_in InboxFull = 0
faults_in NothingToEvict = 0
faults_in (Damaged object) = 0
faults_in NotClean = 0

abbrev pub faults_told : Option Refusal → ℕ
faults_told None = 0
faults_told (Some refusal) = faults_in refusal
