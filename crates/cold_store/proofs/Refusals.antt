-- Why a call is refused, in the words of its caller.
use Rattle.cold_store.proofs.Common.{BadSplit, Bool, Damaged, Err, Fragment, Frozen, IfErr, InboxEmpty, InboxFull, Ino, JobOutstanding, Loads, MayFail, MayNotAdd, MayNotLoad, MayRefuse, NoInodes, NoMemory, NoSuchFrag, None, NotAuthority, NotClean, NothingToEvict, ObjName, Ok, Omap, OnOk, Option, Pinned, Refusal, Result, Some, StaleJob, StoreFault, TooManyFrags, Trimmed, WrongExportState, ap, false, faults_told, inl, inr, refl, result_err, ℕ, ◌<◌, ◌≡◌}
use Rattle.mds_types.specs.declared.object_names.ObjName.TheVariants.{Frag as FragOf}

-- what is off there is off here
pub widened : {IsOff IsBad : ObjName → Type 0} (a b x y : ℕ) (reason : Refusal) → (a < b → x < y) → ((name : ObjName) → IsOff name → IsBad name) → MayFail IsOff a b reason → MayFail IsBad x y reason
widened a b x y reason rose wider (inl memory) = inl memory
widened a b x y reason rose wider (inr (inl fault)) = inr (inl (fault.0, rose fault.1))
widened a b x y reason rose wider (inr (inr (name, is, off))) = inr (inr (name, is, wider name off))

-- where names aren't added no fault is told
pub added_refused : {A : Type 0} (result : Result A Refusal) {IsOff : ObjName → Type 0} (dir : Ino) (frag : Fragment) (new : Bool) (a b : ℕ) → ((name : ObjName) → name ≡ FragOf dir frag → new ≡ false → IsOff name) → IfErr result (MayNotAdd dir frag new) → IfErr result (MayFail IsOff a b)
added_refused (Ok v) dir frag new a b off h = tt
added_refused (Err reason) dir frag new a b off (inl memory) = inl memory
added_refused (Err reason) dir frag new a b off (inr (is, old)) = inr (inr (FragOf dir frag, is, off (FragOf dir frag) refl old))

pub added_counted : {A : Type 0} (result : Result A Refusal) (dir : Ino) (frag : Fragment) (new : Bool) → IfErr result (MayNotAdd dir frag new) → faults_told (result_err result) ≡ 0
added_counted (Ok v) dir frag new h = refl
added_counted (Err reason) dir frag new (inl memory) = ap (λ r. faults_told (Some r)) memory
added_counted (Err reason) dir frag new (inr (is, old)) = ap (λ r. faults_told (Some r)) is

-- what is said of an Ok, or of an Err, and what follows
pub ok_then : {A E P Q : Type 0} (result : Result A E) → (P → Q) → OnOk result P → OnOk result Q
ok_then (Ok v) so h = so h
ok_then (Err e) so h = tt

pub ok_always : {A E P : Type 0} (result : Result A E) → P → OnOk result P
ok_always (Ok v) h = h
ok_always (Err e) h = tt

pub err_then : {A E : Type 0} (result : Result A E) {P Q : E → Type 0} → ((e : E) → P e → Q e) → IfErr result P → IfErr result Q
err_then (Ok v) so h = tt
err_then (Err e) so h = so e h
