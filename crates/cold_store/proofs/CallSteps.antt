-- The calls of a walk, step by step.
use Rattle.cold_store.proofs.Common.{Bool, Damaged, Err, Finding, Fragment, IfErr, Ino, IsBadAmong, IsBadLeaf, IsGoodDir, IsGoodLeaf, IsWalkedTo, List, MayFail, MayNotAdd, NoMemory, None, Objects, ObjName, Ok, Omap, Option, Refusal, Result, Walked, Some, StoreFault, [], ap, arith, drop, drop_more, get_or, inl, inr, length, length-take-le, object_of, option_map, refl, result_err, records_at, records_from, rows_in, same_Some, slice_get, slice_get-get_or, root_alone, subst, suc, sym, take, take_all, with_rows, zero, ℕ, ◌++◌, ◌+◌, ◌<◌, ◌∙◌, ◌∷◌, ◌≡◌, ◌≤◌}
use Rattle.std.proofs.Common.{◌≢◌}
use Rattle.mds_types.specs.declared.object_names.ObjName.TheVariants.{Frag as FragOf}
use Rattle.dirfrag_codec.specs.Values.{tree_of_bytes as leaves_spelled}
use Rattle.dentry_cache.proofs.CallLaws.{damaged_not, memory_not, none_called, some_not, told_then}
use Rattle.dentry_cache.specs.Calls.{AreCalls, calls_to_load}
use Rattle.cold_store.specs.Calls.{AreDirCalls, AreDirsCalls, AreLeafCalls, AreWalkCalls, Calls, HasRead, IsWhollyRead, TellsNoOther, behind_header, calls_for_tree, found_in, name_pages_beyond}
use Rattle.cold_store.proofs.RowLaws.{with_rows-append}

module _ {S : Type 0} (IsCall : Calls S) (objects : Objects) where
  -- ---- leaves

  module _ (d : Ino) (i : ℕ) (fs : List Fragment) (f : Fragment) (less : i < length fs) (at : f ≡ get_or fs i f) (s : Walked) (old : S) where
    behind : drop i fs ≡ f ∷ drop (i + 1) fs
    behind = drop_more fs i f less ∙ ap (λ g. g ∷ drop (i + 1) fs) (sym at)

    -- the walk ends in this leaf
    pub leaf_ends : (told : Option Refusal) (new : S) → told ≢ None → TellsNoOther told (FragOf d f) → AreCalls IsCall (calls_to_load f (object_of objects d f)) old told new → AreLeafCalls IsCall objects s d (drop i fs) old told new
    leaf_ends told new ends tells calls = subst (λ gs. AreLeafCalls IsCall objects s d gs old told new) (sym behind) (inl (ends, tells, calls))

    -- which is bad then
    pub bad_here : (name : ObjName) → (name ≡ FragOf d f) × IsBadLeaf objects s (d, f) → IsBadAmong objects s d (drop i fs) name
    bad_here name bad = subst (λ gs. IsBadAmong objects s d gs name) (sym behind) (inl bad)

    -- or goes on behind it
    pub leaf_goes_on : (t : Walked) → t ≡ with_rows s (records_at objects (d, f)) → IsGoodLeaf objects s (d, f) → (mid : S) → AreCalls IsCall (calls_to_load f (object_of objects d f)) old None mid
        → (told : Option Refusal) (new : S) → AreLeafCalls IsCall objects t d (drop (i + 1) fs) mid told new → AreLeafCalls IsCall objects s d (drop i fs) old told new
    leaf_goes_on t added good mid calls told new rest =
        subst (λ gs. AreLeafCalls IsCall objects s d gs old told new) (sym behind) (inr (good, mid, calls, subst (λ u. AreLeafCalls IsCall objects u d (drop (i + 1) fs) mid told new) added rest))

  -- ---- directories

  dirs_calls-snoc : (s : Walked) (ds : List Ino) (d : Ino) (old mid new : S) → AreDirsCalls IsCall objects s ds old mid → IsGoodDir objects (with_rows s (records_from objects ds)) d
      → AreDirCalls IsCall objects (with_rows s (records_from objects ds)) d mid None new → AreDirsCalls IsCall objects s (ds ++ d ∷ []) old new
  dirs_calls-snoc s [] d old mid new before good calls = (good, new, subst (λ (x : S). AreDirCalls IsCall objects s d x None new) before calls, refl)
  dirs_calls-snoc s (e ∷ ds) d old mid new before good calls = (
    before.0,
    before.1,
    before.2,
    dirs_calls-snoc (with_rows s (rows_in objects e)) ds d before.1 mid new before.3 (subst (λ u. IsGoodDir objects u d) (with_rows-append s (rows_in objects e) (records_from objects ds)) good)
        (subst (λ u. AreDirCalls IsCall objects u d mid None new) (with_rows-append s (rows_in objects e) (records_from objects ds)) calls),
  )

  module _ (found : Finding) (next : ℕ) (w : IsWalkedTo objects found next) (old mid : S) (calls : AreDirsCalls IsCall objects root_alone (take next found.shape.queue) old mid) where
    abbrev done : List Ino
    done = take next found.shape.queue

    long : length done ≡ next
    long = length-take-le next found.shape.queue w.within

    queue_is : (found_in objects done).queue ≡ found.shape.queue
    queue_is = ap (λ (t : Walked). t.queue) (sym w.walked)

    is_read : HasRead IsCall objects done old mid
    is_read = record { first = λ i. take (long i) (queue_is i); calls = calls }

    module _ (d : Ino) (less : next < length found.shape.queue) (at : d ≡ get_or found.shape.queue next d) where
      -- the walk ends in this directory
      pub dir_ends : (told : Option Refusal) (new : S) → told ≢ None → AreDirCalls IsCall objects found.shape d mid told new → AreWalkCalls IsCall objects old told new
      dir_ends told new ends dir =
          let here : slice_get found.shape.queue next ≡ Some d = slice_get-get_or found.shape.queue next d less ∙ ap Some (sym at) in
          AreWalkCalls.ends_in done d mid is_read ((λ i. slice_get (queue_is i) (long i)) ∙ here) ends (subst (λ (s : Walked). AreDirCalls IsCall objects s d mid told new) w.walked dir)

      -- or goes on behind it
      pub dir_goes_on : (then : Finding) → take (next + 1) then.shape.queue ≡ done ++ d ∷ [] → IsGoodDir objects found.shape d → (new : S) → AreDirCalls IsCall objects found.shape d mid None new
          → AreDirsCalls IsCall objects root_alone (take (next + 1) then.shape.queue) old new
      dir_goes_on then taken good new dir =
          subst (λ ds. AreDirsCalls IsCall objects root_alone ds old new) (sym taken)
          (dirs_calls-snoc root_alone done d old mid new calls (subst (λ (s : Walked). IsGoodDir objects s d) w.walked good) (subst (λ (s : Walked). AreDirCalls IsCall objects s d mid None new) w.walked dir))

    -- at the end of the queue all are read
    pub all_read : length found.shape.queue ≤ next → IsWhollyRead IsCall objects found.shape.queue old mid
    all_read last =
        let all : done ≡ found.shape.queue = take_all next found.shape.queue last in
        record { whole = ap (λ ds. (found_in objects ds).queue) (sym all) ∙ queue_is; read = subst (λ ds. HasRead IsCall objects ds old mid) all is_read }

-- ---- what is told

pub memory_tells : (object : ObjName) → TellsNoOther (Some NoMemory) object
memory_tells object name is = let clash : NoMemory ≡ Damaged name = same_Some NoMemory (Damaged name) is in absurd cc

fault_tells : (object : ObjName) → TellsNoOther (Some StoreFault) object
fault_tells object name is = let clash : StoreFault ≡ Damaged name = same_Some StoreFault (Damaged name) is in absurd cc

its_name : (a b : ObjName) → Damaged a ≡ Damaged b → a ≡ b
its_name a b same = cc

pub tells_no_other : (P : Type 0) (object : ObjName) (a b : ℕ) (reason : Refusal) → MayFail (λ name. (name ≡ object) × P) a b reason → TellsNoOther (Some reason) object
tells_no_other P object a b reason (inl memory) = subst (λ (r : Refusal). TellsNoOther (Some r) object) (sym memory) (memory_tells object)
tells_no_other P object a b reason (inr (inl fault)) = subst (λ (r : Refusal). TellsNoOther (Some r) object) (sym fault.0) (fault_tells object)
tells_no_other P object a b reason (inr (inr (name, is, off))) = λ other told. its_name other name (sym (same_Some reason (Damaged other) told) ∙ is) ∙ off.0

-- ---- the tree object of a directory

pub no_tree : (o : Option Omap) → None ≡ option_map (λ (x : Omap). x.header) o → calls_for_tree o ≡ 1
no_tree None is = refl
no_tree (Some object) is = absurd cc

its_header : (o : Option Omap) (header : List ℕ) → Some header ≡ option_map (λ (x : Omap). x.header) o → calls_for_tree o ≡ suc (behind_header (leaves_spelled header))
its_header None header is = absurd cc
its_header (Some object) header is = ap (λ h. suc (behind_header (leaves_spelled h))) (sym (same_Some header object.header is))

pub off_tree : (o : Option Omap) (header : List ℕ) → Some header ≡ option_map (λ (x : Omap). x.header) o → None ≡ leaves_spelled header → calls_for_tree o ≡ 1
off_tree o header is none = its_header o header is ∙ ap (λ (l : Option (List Fragment)). suc (behind_header l)) (sym none)

pub good_tree : (o : Option Omap) (header : List ℕ) (leaves : List Fragment) → Some header ≡ option_map (λ (x : Omap). x.header) o → Some leaves ≡ leaves_spelled header → calls_for_tree o ≡ 2
good_tree o header leaves is some = its_header o header is ∙ ap (λ (l : Option (List Fragment)). suc (behind_header l)) (sym some)

module _ {S : Type 0} (IsCall : Calls S) where
  -- one call is all
  pub all_one : (n : ℕ) (old new : S) (told : Option Refusal) → n ≡ 1 → told ≢ Some StoreFault → IsCall old None new → AreCalls IsCall n old told new
  all_one n old new told one other call = subst (λ k. AreCalls IsCall k old told new) (sym one) (inr (inr (new, call, (refl, other))))

  -- or the first of two
  pub all_two : (n : ℕ) (old mid new : S) (told : Option Refusal) → n ≡ 2 → IsCall old None mid → AreCalls IsCall 1 mid told new → AreCalls IsCall n old told new
  all_two n old mid new told two call rest = subst (λ k. AreCalls IsCall k old told new) (sym two) (inr (inr (mid, call, rest)))

  -- it is refused
  pub first_refused : (n : ℕ) (old new : S) (reason : Refusal) → IsCall old (Some reason) new → AreCalls IsCall (suc n) old (Some reason) new
  first_refused n old new reason call = inr (inl (some_not reason, call))

  -- or memory lacks behind it
  pub behind_one : (n : ℕ) (old new : S) → IsCall old None new → AreCalls IsCall (suc n) old (Some NoMemory) new
  behind_one n old new call = inr (inr (new, call, none_called IsCall n new))

  -- names of a leaf that aren't added
  pub then_added : {A : Type 0} (n : ℕ) (old new : S) (result : Result A Refusal) (d : Ino) (f : Fragment) (fresh : Bool) → IfErr result (MayNotAdd d f fresh) → AreCalls IsCall n old None new → AreCalls IsCall n old (result_err result) new
  then_added n old new (Ok value) d f fresh may calls = calls
  then_added n old new (Err reason) d f fresh (inl memory) calls = told_then IsCall n old new (Some reason) (λ fault. memory_not (ap Some (sym memory) ∙ fault)) calls
  then_added n old new (Err reason) d f fresh (inr (is, met)) calls = told_then IsCall n old new (Some reason) (λ fault. damaged_not (FragOf d f) (ap Some (sym is) ∙ fault)) calls

-- ---- pages of names

pub few_beyond : (n : ℕ) (ys : List (List ℕ)) → length ys ≤ n → name_pages_beyond n ys ≡ 0
few_beyond zero [] few = refl
few_beyond (suc n) [] few = refl
few_beyond zero (y ∷ ys) few = absurd (omega (arith, few))
few_beyond (suc n) (y ∷ ys) few = few_beyond n ys (omega (arith, few))

pub more_beyond : (n : ℕ) (ys : List (List ℕ)) → n < length ys → name_pages_beyond n ys ≡ suc (name_pages_beyond 64 (drop n ys))
more_beyond zero [] less = absurd (omega (arith, less))
more_beyond zero (y ∷ ys) less = refl
more_beyond (suc n) [] less = absurd (omega (arith, less))
more_beyond (suc n) (y ∷ ys) less = more_beyond n ys (omega (arith, less))
