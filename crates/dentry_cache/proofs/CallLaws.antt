-- The calls of a store, one after the other.
use Rattle.std.proofs.Common.{Bool, Err, IfErr, List, None, Ok, Option, Result, Some, [], ap, arith, cond, false, inl, inr, length, refl, rules, subst, suc, sym, take, true, zero, ℕ, ◌&&◌, ◌++◌, ◌+◌, ◌<◌, ◌∙◌, ◌∷◌, ◌≡◌, ◌≢◌, ◌≤◌, ◌⊎◌}
use Rattle.std.proofs.lemmas.Bool.{and_parts, cond_both}
use Rattle.std.specs.Result.{result_err}
use Rattle.mds_types.specs.declared.object_names.ObjName.{ObjName}
use Rattle.mds_types.specs.Frag.{Fragment}
use Rattle.mds_types.specs.declared.refusals.Refusal.{Refusal}
use Rattle.mds_types.specs.declared.refusals.Refusal.TheVariants.{NoMemory, StoreFault, NoInodes, Trimmed, NotAuthority, Frozen, Pinned, NoSuchFrag, BadSplit, TooManyFrags, StaleJob, JobOutstanding, WrongExportState, InboxEmpty, InboxFull, NothingToEvict, Damaged, NotClean}
use Rattle.objstore.specs.Objects.{MayRefuse}
use Rattle.objstore.specs.Omap.{Omap}
use Rattle.dentry_cache.specs.Calls.{AreCalls, AreFetchCalls, calls_to_load, header_in, pages_behind, pages_beyond, pages_read}
use Rattle.dentry_cache.specs.Pairs.{are_good, is_good, pairs_left}
use Rattle.dirfrag_codec.specs.declared.headers.FragHeader.{FragHeader}

-- what a call may be refused for, if not by a fault
memory : (a b : ℕ) (reason : Refusal) → MayRefuse a b reason → reason ≢ StoreFault → reason ≡ NoMemory
memory a b NoMemory may other = refl
memory a b StoreFault may other = absurd (other refl)
memory a b NoInodes may other = absurd may
memory a b Trimmed may other = absurd may
memory a b NotAuthority may other = absurd may
memory a b Frozen may other = absurd may
memory a b Pinned may other = absurd may
memory a b NoSuchFrag may other = absurd may
memory a b BadSplit may other = absurd may
memory a b TooManyFrags may other = absurd may
memory a b StaleJob may other = absurd may
memory a b JobOutstanding may other = absurd may
memory a b WrongExportState may other = absurd may
memory a b InboxEmpty may other = absurd may
memory a b InboxFull may other = absurd may
memory a b NothingToEvict may other = absurd may
memory a b (Damaged object) may other = absurd may
memory a b NotClean may other = absurd may

-- answers that tell no fault, and refusals
pub none_not : ◌≢◌ {A = Option Refusal} None (Some StoreFault)
none_not h = absurd cc

pub memory_not : Some NoMemory ≢ Some StoreFault
memory_not h = absurd cc

pub damaged_not : (name : ObjName) → Some (Damaged name) ≢ Some StoreFault
damaged_not name h = absurd cc

pub some_not : (reason : Refusal) → Some reason ≢ None
some_not reason h = absurd cc

module _ {S : Type 0} (IsCall : S → Option Refusal → S → Type 0) where
  -- where all calls were answered any refusal but a fault may come
  pub told_then : (n : ℕ) (old new : S) (told : Option Refusal) → told ≢ Some StoreFault → AreCalls IsCall n old None new → AreCalls IsCall n old told new
  told_then zero old new told other calls = (calls.0, other)
  told_then (suc n) old new told other (inl lacks) = let clash : None ≡ Some NoMemory = lacks.1 in absurd cc
  told_then (suc n) old new told other (inr (inl refused)) = absurd (refused.0 refl)
  told_then (suc n) old new told other (inr (inr (mid, call, rest))) = inr (inr (mid, call, told_then n mid new told other rest))

  -- memory lacks behind a call, and no more are made
  ends_here : (n : ℕ) (old new : S) (reason : Refusal) → reason ≡ NoMemory → new ≡ old → AreCalls IsCall n old (Some reason) new
  ends_here zero old new reason is same = (same, λ fault. let clash : NoMemory ≡ StoreFault = sym is ∙ only reason fault in absurd cc)
    where
      only : (r : Refusal) → Some r ≡ Some StoreFault → r ≡ StoreFault
      only r h = cc
  ends_here (suc n) old new reason is same = inl (same, ap Some is)

  -- one call that ends a reading of more, since it is refused or memory lacks behind it
  pub ends_early : (n : ℕ) (old new : S) (reason : Refusal) (a b : ℕ) → MayRefuse a b reason → AreCalls IsCall 1 old (Some reason) new → AreCalls IsCall (suc n) old (Some reason) new
  ends_early n old new reason a b may (inl lacks) = inl lacks
  ends_early n old new reason a b may (inr (inl refused)) = inr (inl refused)
  ends_early n old new reason a b may (inr (inr (mid, call, rest))) = inr (inr (mid, call, ends_here n mid new reason (memory a b reason may (λ fault. rest.1 (ap Some fault))) rest.0))

  -- one call is answered, and more follow
  pub goes_on : (n : ℕ) (old mid new : S) (told : Option Refusal) → AreCalls IsCall 1 old None mid → AreCalls IsCall n mid told new → AreCalls IsCall (suc n) old told new
  goes_on n old mid new told (inl lacks) rest = let clash : None ≡ Some NoMemory = lacks.1 in absurd cc
  goes_on n old mid new told (inr (inl refused)) rest = absurd (refused.0 refl)
  goes_on n old mid new told (inr (inr (then, call, last))) rest = inr (inr (mid, subst (λ (s : S). IsCall old None s) (sym last.0) call, rest))

  -- one call alone
  pub one_call : (old new : S) (told : Option Refusal) → IsCall old told new → AreCalls IsCall 1 old told new
  one_call old new None call = inr (inr (new, call, (refl, none_not)))
  one_call old new (Some reason) call = inr (inl (some_not reason, call))

  -- all calls were answered, and then memory may lack
  pub then_memory : {A : Type 0} (n : ℕ) (old new : S) (result : Result A Refusal) → IfErr result (λ reason. reason ≡ NoMemory) → AreCalls IsCall n old None new → AreCalls IsCall n old (result_err result) new
  then_memory n old new (Ok value) may calls = calls
  then_memory n old new (Err reason) may calls = told_then n old new (Some reason) (λ fault. memory_not (ap Some (sym may) ∙ fault)) calls

  -- nothing was called yet where memory lacks
  pub none_called : (n : ℕ) (old : S) → AreCalls IsCall n old (Some NoMemory) old
  none_called n old = ends_here n old old NoMemory refl refl

-- ---- pages

clash_list : {X : Type 0} → true ≡ false → X
clash_list h = cc

-- the page that is read has a pair that is off
pub off_here : (frag : Fragment) (n : ℕ) (xs : List (List ℕ × List ℕ)) → are_good frag (take n xs) ≡ false → pages_beyond frag n xs ≡ 0
off_here frag zero [] bad = refl
off_here frag (suc n) [] bad = refl
off_here frag zero (x ∷ xs) bad = clash_list bad
off_here frag (suc n) (x ∷ xs) bad = cond_both (is_good frag x) (pages_beyond frag n xs) zero (λ k. k ≡ 0) (λ good. off_here frag n xs (sym (ap (λ b. b && are_good frag (take n xs)) good) ∙ bad)) (λ off. refl)

-- or it is the last
pub last_here : (frag : Fragment) (n : ℕ) (xs : List (List ℕ × List ℕ)) → length xs ≤ n → pages_beyond frag n xs ≡ 0
last_here frag zero [] few = refl
last_here frag (suc n) [] few = refl
last_here frag zero (x ∷ xs) few = absurd (omega (arith, few))
last_here frag (suc n) (x ∷ xs) few = cond_both (is_good frag x) (pages_beyond frag n xs) zero (λ k. k ≡ 0) (λ good. last_here frag n xs (omega (arith, few))) (λ off. refl)

-- or more pairs follow, and none in it is off
pub more_behind : (frag : Fragment) (n : ℕ) (these rest : List (List ℕ × List ℕ)) → length these ≡ n → 0 < length rest → are_good frag these ≡ true → pages_beyond frag n (these ++ rest) ≡ suc (pages_beyond frag 64 rest)
more_behind frag zero [] [] count some good = absurd (omega (arith, some))
more_behind frag zero [] (x ∷ rest) count some good = refl
more_behind frag zero (y ∷ these) rest count some good = absurd (omega (arith, count))
more_behind frag (suc n) [] rest count some good = absurd (omega (arith, count))
more_behind frag (suc n) (x ∷ these) rest count some good =
    let parts = and_parts (is_good frag x) (are_good frag these) good in
    ap (λ b. cond b (pages_beyond frag n (these ++ rest)) zero) parts.0 ∙ more_behind frag n these rest (omega (arith, count)) some parts.1

-- ---- a fragment

-- no header, and no page is read
pub header_alone : (frag : Fragment) (object : Option Omap) → None ≡ header_in object → calls_to_load frag object ≡ 1
header_alone frag object none = ap (λ (h : Option FragHeader). suc (pages_behind h (pages_read frag (pairs_left object None)))) (sym none)

-- a header, and then the pages
pub header_first : (frag : Fragment) (object : Option Omap) (header : FragHeader) → Some header ≡ header_in object → calls_to_load frag object ≡ suc (pages_read frag (pairs_left object None))
header_first frag object header some = ap (λ (h : Option FragHeader). suc (pages_behind h (pages_read frag (pairs_left object None)))) (sym some)
