-- Commits of whole fragments, several at once.
use Rattle.mdcache.proofs.Common.{AllByRecursion, AreOfOtherLeaves, Base, Begins, BeginsUnsaved, Begun, CacheMap, Came, CommitsWhole, Core, Dirfrag, EndsJobOf, Err, HasFragment, IfErr, IfOk, IsBegunAt, IsEnded, IsFree, IsFreeFor, IsLive, IsReadyWrite, IsSound, IsSoundCore, IsThat, IsUncleanAt, Job, Jobs, KeepsTree, Leaf, LeavesOtherLeaves, List, MayHold, MayNotBeginAll, MayNotBeginOne, None, NoneEnds, NotAmong, Ok, OnErr, Option, Rank, Ready, Refusal, Some, State, Unsaved, UnsavedLeaves, [], ap, append_assoc, arith, came_held, came_ranks, came_weaker, committed, cond, drop, drop_more, empty_of_len, false, get-empty, get_or, here as here_of, inl, inr, is_some, leaves_of_places, leaves_of_jobs, leaves_of_writes, len-remove, length, map-append, option_map, ready_of, refl, rules, shown_tree, state_of, subst, suc, sym, take, take-map, told_of_commit, true, unclean, unsaved_in, with_job, zero, ℕ, ⊎_elim, ◌++◌, ◌+◌, ◌-◌, ◌<◌, ◌∙◌, ◌∷◌, ◌≡◌}
use Rattle.std.proofs.Common.{map as list_map, Result}
use Rattle.std.specs.FinMap as map
use Rattle.mds_types.specs.Leaf.{leaf_of as leaf_at}
use Rattle.mdcache.specs.Commits.{leaf_of_job}
use Rattle.mdcache.proofs.AtHandLaws.{begun_are_at_hand, begun_leave_at_hand, ended_are_clean, others_stay_at_hand}
use Rattle.mdcache.proofs.CommittedLaws.{whole_then}
use Rattle.mdcache.proofs.EndLaws.{unclean_here, unclean_is_there}
use Rattle.mdcache.proofs.KeptTree.{steps_keep_tree, there_at}
use Rattle.mdcache.proofs.PlacesLaws.{all_append, all_drop, all_weaker, apart_take}
use Rattle.inode_table.proofs.Chains.{some_of}
use Rattle.mds_types.proofs.LeafLaws.{get_beside, get_left, leaf-total}

-- a commit that began left its job, and nothing else
begun_left : (old new : State) (leaf : Leaf) (job : Job) (o : Option Unsaved) → BeginsUnsaved old new leaf o (Some job) → new ≡ with_job old job
begun_left old new leaf job o is = search rules

module _ (old new : Core) (rank : Rank) (leaf : Leaf) (may : MayHold old.caches rank leaf) (dirty : is_some (map.get (unclean old.caches) leaf) ≡ true) (came : Came (IsThat rank.0 leaf) NoneEnds old.caches new.caches) where
  came_there : Came (HasFragment old.caches) NoneEnds old.caches new.caches
  came_there = came_weaker (IsThat rank.0 leaf) NoneEnds (HasFragment old.caches) NoneEnds
      (λ r q is. subst (λ k. HasFragment old.caches k q) (sym is.0) (subst (HasFragment old.caches rank.0) (sym is.1) (unclean_is_there old.caches rank.0 leaf may.alone dirty))) (λ r q ends. ends) old.caches new.caches came

  -- what leaves all of the state but what isn't clean, objects, jobs and their numbers
  keeps : (s : State) → state_of new ≡ record (state_of old) { unsaved = s.unsaved; objects = s.objects; jobs = s.jobs; next_job = s.next_job } → shown_tree (state_of new) ≡ shown_tree (state_of old) → KeepsTree old new
  keeps s left tree = search (rules, came_there)

  -- a commit begins, or doesn't
  begin_keeps : (job : Job) → Begins (state_of old) (state_of new) leaf (Ok (Some job)) → KeepsTree old new
  begin_keeps job begun = let left = begun_left (state_of old) (state_of new) leaf job (map.get (unclean old.caches) leaf) begun.2 in keeps (with_job (state_of old) job) left (ap shown_tree left)

  refused_keeps : state_of new ≡ state_of old → KeepsTree old new
  refused_keeps same = keeps (state_of old) same (ap shown_tree same)

  pub either_keeps : (result : Result Job Refusal) → IfOk result (λ job. Begins (state_of old) (state_of new) leaf (Ok (Some job))) → IfErr result (λ reason. Begins (state_of old) (state_of new) leaf (Err reason)) → KeepsTree old new
  either_keeps (Ok job) begun refused = begin_keeps job begun
  either_keeps (Err reason) begun refused = refused_keeps refused.1

  -- a commit ends, or doesn't
  pub ends_keeps : (before after : ℕ) (job : Job) (result : Result (Unit {0}) Refusal) → EndsJobOf (state_of old) (state_of new) before after job result → KeepsTree old new
  ends_keeps before after job (Ok done) ended = keeps (committed (state_of old) job ended.unsaved) ended.left ended.tree
  ends_keeps before after job (Err reason) refused = refused_keeps refused.1

-- a leaf that isn't clean is there
pub unclean_live : (s : State) (leaf : Leaf) → IsSound s → is_some (map.get s.unsaved leaf) ≡ true → IsLive s.homes s.covers leaf
unclean_live s leaf sound dirty = let u = some_of (map.get s.unsaved leaf) dirty in (sound.unsaved leaf u.0 u.1).live

-- so it isn't refused as absent
pub begin_refused : (s : State) (new : State) (leaf : Leaf) (reason : Refusal) → IsSound s → is_some (map.get s.unsaved leaf) ≡ true → map.get s.jobs leaf ≡ None → Begins s new leaf (Err reason) → MayNotBeginOne s leaf reason
begin_refused s new leaf reason sound dirty free refused = ⊎_elim (λ no. absurd (no.1 (unclean_live s leaf sound dirty)))
    (⊎_elim (λ stands. let clash : false ≡ true = ap is_some (sym free) ∙ stands.2 in absurd cc) (λ w. ⊎_elim (λ lacks. inr (lacks.0, (w.2, w.3, lacks.1))) (λ memory. inl memory.0) w.4)) refused.0

-- nothing changes where one is refused
pub refused_left : (s new : State) (leaf : Leaf) (result : Result Job Refusal) → IfErr result (λ reason. Begins s new leaf (Err reason)) → OnErr result (new ≡ s)
refused_left s new leaf (Ok job) refused = tt
refused_left s new leaf (Err reason) refused = refused.1

-- of a leaf that isn't clean base and generation are told
pub told_some : (c : CacheMap) (r : ℕ) (leaf : Leaf) → IsFreeFor c r leaf → is_some (map.get (unclean c) leaf) ≡ true → is_some (told_of_commit (here_of c r leaf)) ≡ true
told_some c r leaf free dirty = mapped (unsaved_in (here_of c r leaf)) (ap is_some (sym (unclean_here c r leaf free)) ∙ dirty)
  where
    mapped : (o : Option Unsaved) → is_some o ≡ true → is_some {T = Base × ℕ} (option_map (λ (u : Unsaved). (u.base, u.generation)) o) ≡ true
    mapped None some = some
    mapped (Some u) some = refl

-- ---- others, while one begins

-- a leaf that a rank may hold it still may
pub may_hold_on : (old new : CacheMap) → Came (HasFragment old) NoneEnds old new → (rank : Rank) (leaf : Leaf) → MayHold old rank leaf → MayHold new rank leaf
may_hold_on old new came rank leaf may = record {
  there = (let count : length new.used ≡ length old.used = came_ranks (HasFragment old) NoneEnds old new came in let there = may.there in omega (arith, count, there));
  alone = elim (map.get new.held leaf) as (λ o. map.get new.held leaf ≡ o → IsFree rank.0 o) [
    | None ↦ λ none. tt
    | Some a ↦ λ is. ⊎_elim (λ same. subst (IsFree rank.0) same may.alone)
        (λ there. let w = there_at a.rank (map.get old.held leaf) there in sym w.2 ∙ subst (IsFree rank.0) w.1 may.alone) (came_held (HasFragment old) NoneEnds old new came leaf a is)
  ] refl;
}

-- a leaf apart from all others
apart_behind : (xs : List Leaf) (y : Leaf) (ys : List Leaf) → AreOfOtherLeaves (xs ++ y ∷ ys) → AllByRecursion (λ (q : Leaf). q ≡ y → ⊥) xs
apart_behind [] y ys apart = tt
apart_behind (x ∷ xs) y ys (others, apart) = (first_apart xs y ys others, apart_behind xs y ys apart)
  where
    first_apart : (xs : List Leaf) (y : Leaf) (ys : List Leaf) → AllByRecursion (λ (q : Leaf). q ≡ x → ⊥) (xs ++ y ∷ ys) → x ≡ y → ⊥
    first_apart [] y ys (this, more) same = this (sym same)
    first_apart (z ∷ xs) y ys (this, more) same = first_apart xs y ys more same

-- what holds of each goes over, where it does so for those that are apart
all_so : {A B : Type 0} (f : A → B) (R : B → Type 0) (P Q : A → Type 0) → ((x : A) → R (f x) → P x → Q x) → (xs : List A) → AllByRecursion R (list_map f xs) → AllByRecursion P xs → AllByRecursion Q xs
all_so f R P Q so [] apart all = tt
all_so f R P Q so (x ∷ xs) (here, apart) (one, all) = (so x here one, all_so f R P Q so xs apart all)

-- a job stands only for a leaf among these
abbrev pub StandAmong : Jobs → List Leaf → Type 0
StandAmong jobs leaves = (q : Leaf) → NotAmong q leaves → map.get jobs q ≡ None

-- the rest of a slice begins with its element
pub rest_is : {A : Type 0} (all : List A) (i : ℕ) (one : A) → i < length all → one ≡ get_or all i one → drop i all ≡ one ∷ drop (i + 1) all
rest_is all i one within is = drop_more all i one within ∙ ap (λ x. x ∷ drop (i + 1) all) (sym is)

-- so far commits of the first of these leaves have begun, and the others aren't clean
pub record BeginsFirst (old now : Core) (leaves : List Dirfrag) (i : ℕ) (done : List Begun) : Type 0 where
  pub begun : AllByRecursion (IsBegunAt now) done
  pub rest : AllByRecursion (IsUncleanAt now.caches) (drop i leaves)
  pub listed : leaves_of_jobs done ++ leaves_of_places (drop i leaves) ≡ leaves_of_places leaves
  pub among : StandAmong now.jobs (leaves_of_jobs done)
  pub left : state_of now ≡ record (state_of old) { jobs = now.jobs; next_job = now.next_job }
  pub number : now.next_job ≡ old.next_job + i
  pub tree : KeepsTree old now
  pub faults : now.faults ≡ old.faults
  pub sound : IsSoundCore now

module _ (old now : Core) (leaves : List Dirfrag) (i : ℕ) (at : Dirfrag) (within : i < length leaves) (is : at ≡ get_or leaves i at) (done : List Begun)
    (so_far : BeginsFirst old now leaves i done) (all_apart : AreOfOtherLeaves (leaves_of_places leaves)) where
  abbrev behind : List Dirfrag
  behind = drop (i + 1) leaves

  here : drop i leaves ≡ at ∷ behind
  here = rest_is leaves i at within is

  whole : leaves_of_jobs done ++ leaf_at at ∷ leaves_of_places behind ≡ leaves_of_places leaves
  whole = ap (λ ds. leaves_of_jobs done ++ leaves_of_places ds) (sym here) ∙ so_far.listed

  others : AllByRecursion (λ (q : Leaf). q ≡ leaf_at at → ⊥) (leaves_of_jobs done)
  others = apart_behind (leaves_of_jobs done) (leaf_at at) (leaves_of_places behind) (subst AreOfOtherLeaves (sym whole) all_apart)

  -- no job stands for the next leaf,
  pub next_free : map.get now.jobs (leaf_at at) ≡ None
  next_free = so_far.among (leaf_at at) others

  -- and once its commit has begun it is one of the first
  pub begins_next : (new : Core) (job : Job) → Begins (state_of now) (state_of new) (leaf_at at) (Ok (Some job)) → KeepsTree now new → new.faults ≡ now.faults → IsSoundCore new
      → (pushed : List Begun) → pushed ≡ done ++ (record { rank = at.rank; job = job }) ∷ [] → BeginsFirst old new leaves (i + 1) pushed
  begins_next new job begins keeps_it faults sound pushed push =
      let left = begun_left (state_of now) (state_of new) (leaf_at at) job (map.get (unclean now.caches) (leaf_at at)) begins.2 in
      let hand = begun_are_at_hand (state_of now) (state_of new) (leaf_at at) job begins in
      let unclean_here = subst (AllByRecursion (IsUncleanAt now.caches)) here so_far.rest in
      let holds = may_hold_on now.caches new.caches keeps_it.caches in
      let raised : new.next_job ≡ now.next_job + 1 = ap (λ (s : State). s.next_job) left in
      let number = so_far.number in
      subst (BeginsFirst old new leaves (i + 1)) (sym push) (record {
        begun = all_append (IsBegunAt new) done ((record { rank = at.rank; job = job }) ∷ []) (all_so (λ (b : Begun). leaf_of_job b.job) (λ q. q ≡ leaf_at at → ⊥) (IsBegunAt now) (IsBegunAt new)
            (λ b other one. record { holds = holds b.rank (leaf_of_job b.job) one.holds; hand = begun_leave_at_hand (state_of now) (state_of new) (leaf_at at) job b.job begins other one.hand }) done others so_far.begun)
            (record { holds = subst (MayHold new.caches at.rank) (sym hand.1) (holds at.rank (leaf_at at) unclean_here.0.holds); hand = hand.0 }, tt);
        rest = all_weaker (IsUncleanAt now.caches) (IsUncleanAt new.caches)
            (λ a one. record { holds = holds a.rank (leaf_at a) one.holds; dirty = ap (λ (s : State). is_some (map.get s.unsaved (leaf_at a))) left ∙ one.dirty }) behind unclean_here.1;
        listed = ap (λ l. l ++ leaves_of_places behind) (map-append (λ (b : Begun). leaf_of_job b.job) done ((record { rank = at.rank; job = job }) ∷ [])) ∙ append_assoc (leaves_of_jobs done) (leaf_of_job job ∷ []) (leaves_of_places behind)
            ∙ ap (λ q. leaves_of_jobs done ++ q ∷ leaves_of_places behind) hand.1 ∙ whole;
        among = λ q apart. let w = apart_parts q job done apart in ap (λ (s : State). map.get s.jobs q) left ∙ get_beside now.jobs (leaf_of_job job) job q (λ same. w.1 (sym same)) ∙ so_far.among q w.0;
        left = left ∙ ap (λ (s : State). with_job s job) so_far.left ∙ (λ j. record (state_of old) { jobs = sym (ap (λ (s : State). s.jobs) left) j; next_job = sym (ap (λ (s : State). s.next_job) left) j });
        number = omega (arith, raised, number);
        tree = steps_keep_tree old now new so_far.tree keeps_it;
        faults = faults ∙ so_far.faults;
        sound = sound;
      })
    where
      apart_parts : (q : Leaf) (job : Job) (bs : List Begun) → NotAmong q (leaves_of_jobs (bs ++ (record { rank = at.rank; job = job }) ∷ [])) → NotAmong q (leaves_of_jobs bs) × (leaf_of_job job ≡ q → ⊥)
      apart_parts q job [] (other, done) = (tt, other)
      apart_parts q job (b ∷ bs) (other, more) = let w = apart_parts q job bs more in ((other, w.0), w.1)

-- why one doesn't begin, so many of them before
pub begin_lacks : (old now : State) (leaf : Leaf) (count less : ℕ) (reason : Refusal) → now.unsaved ≡ old.unsaved → now.next_job ≡ old.next_job + less → less < count → MayNotBeginOne now leaf reason → MayNotBeginAll count old reason
begin_lacks old now leaf count less reason same number few (inl no_memory) = inl no_memory
begin_lacks old now leaf count less reason same number few (inr (no_number, (u, is, inl end))) = inr (no_number, inl (omega (arith, number, end, few)))
begin_lacks old now leaf count less reason same number few (inr (no_number, (u, is, inr above))) = inr (no_number, inr (leaf, u, ap (λ m. map.get m leaf) (sym same) ∙ is, above))

-- ---- others, while one ends

-- a map that has a key isn't empty
some_len : (m : UnsavedLeaves) (k : Leaf) → is_some (map.get m k) ≡ true → 0 < map.len m
some_len m k some = elim (map.len m) as (λ n. map.len m ≡ n → 0 < n) [
  | zero ↦ λ none. let clash : false ≡ true = ap is_some (sym (ap (λ (w : UnsavedLeaves). map.get w k) (empty_of_len m none) ∙ get-empty _ k)) ∙ some in absurd cc
  | suc n ↦ λ is. omega arith
] refl

-- a leaf apart from all writes is apart from those behind the first so many
apart_later : (q : Leaf) (i : ℕ) (ready : List Ready) → NotAmong q (leaves_of_writes ready) → NotAmong q (leaves_of_writes (drop i ready))
apart_later q zero ready apart = apart
apart_later q (suc i) [] apart = tt
apart_later q (suc i) (r ∷ ready) (other, apart) = apart_later q i ready apart

-- so far the first of these commits have ended, and the others are at hand
pub record EndsFirst (old now : Core) (ready : List Ready) (i : ℕ) : Type 0 where
  pub rest : AllByRecursion (IsReadyWrite now) (drop i ready)
  pub apart : AreOfOtherLeaves (leaves_of_writes (drop i ready))
  pub whole : CommitsWhole (state_of old) (state_of now)
  pub fewer : map.len (unclean now.caches) + i ≡ map.len (unclean old.caches)
  pub others : LeavesOtherLeaves (leaves_of_writes ready) (unclean old.caches) (unclean now.caches)
  pub tree : KeepsTree old now
  pub faults : now.faults ≡ old.faults
  pub sound : IsSoundCore now

-- once the next has ended, it is one of the first
pub ends_next : (old now new : Core) (ready : List Ready) (i : ℕ) (one : Ready) → i < length ready → one ≡ get_or ready i one → EndsFirst old now ready i → IsEnded (state_of now) (state_of new) one.encoded.job
    → CommitsWhole (state_of now) (state_of new) → KeepsTree now new → new.faults ≡ now.faults → IsSoundCore new → EndsFirst old new ready (i + 1)
ends_next old now new ready i one within is so_far ended whole keeps_it same sound =
    let all = subst (AllByRecursion (IsReadyWrite now)) (rest_is ready i one within is) so_far.rest in
    let apart = subst (λ rs. AreOfOtherLeaves (leaves_of_writes rs)) (rest_is ready i one within is) so_far.apart in
    let there : is_some (map.get (unclean now.caches) (leaf_of_job one.encoded.job)) ≡ true = ap is_some all.0.hand.beside in
    let removed = ended_are_clean (state_of now) (state_of new) one.encoded.job all.0.hand ended in
    let less : map.len (unclean new.caches) ≡ map.len (unclean now.caches) - 1 =
    ap (λ (m : UnsavedLeaves). map.len m) removed
    ∙ len-remove leaf-total (unclean now.caches) (leaf_of_job one.encoded.job) ∙ ap (λ b. cond {A = ℕ} b (map.len (unclean now.caches) - 1) (map.len (unclean now.caches))) there in
    let some = some_len (unclean now.caches) (leaf_of_job one.encoded.job) there in
    let fewer = so_far.fewer in
    record {
      rest = all_so (λ (r : Ready). leaf_of_job r.encoded.job) (λ q. q ≡ leaf_of_job one.encoded.job → ⊥) (IsReadyWrite now) (IsReadyWrite new) (λ r other it. record {
        holds = may_hold_on now.caches new.caches keeps_it.caches r.rank (leaf_of_job r.encoded.job) it.holds;
        hand = others_stay_at_hand (state_of now) (state_of new) one.encoded.job r.encoded.job ended other all.0.hand it.hand;
      }) (drop (i + 1) ready) apart.0 all.1;
      apart = apart.1;
      whole = whole_then (state_of old) (state_of now) (state_of new) so_far.whole whole;
      fewer = omega (arith, less, some, fewer);
      others = record {
        same = λ q others.
            let this = subst (λ rs. NotAmong q (leaves_of_writes rs)) (rest_is ready i one within is) (apart_later q i ready others) in
            ap (λ (m : UnsavedLeaves). map.get m q) removed ∙ get_left (unclean now.caches) (leaf_of_job one.encoded.job) q (λ same. this.0 (sym same)) ∙ so_far.others.same q others;
      };
      tree = steps_keep_tree old now new so_far.tree keeps_it;
      faults = same ∙ so_far.faults;
      sound = sound;
    }

-- jobs that were begun are those of their writes
pub begun_ready : (core : Core) (begun : List Begun) → AllByRecursion (IsBegunAt core) begun → AllByRecursion (IsReadyWrite core) (list_map ready_of begun)
begun_ready core [] all = tt
begun_ready core (b ∷ begun) (one, all) = (one, begun_ready core begun all)

pub leaves_ready : (begun : List Begun) → leaves_of_writes (list_map ready_of begun) ≡ leaves_of_jobs begun
leaves_ready [] = refl
leaves_ready (b ∷ begun) = ap (λ ls. leaf_of_job b.job ∷ ls) (leaves_ready begun)

-- ---- batch after batch

-- the leaves of a part of a list are apart too
pub apart_first : (n : ℕ) (places : List Dirfrag) → AreOfOtherLeaves (leaves_of_places places) → AreOfOtherLeaves (leaves_of_places (take n places))
apart_first n places apart = subst AreOfOtherLeaves (take-map (λ (a : Dirfrag). leaf_at a) n places) (apart_take n (leaves_of_places places) apart)

apart_rest : (n : ℕ) (places : List Dirfrag) → AreOfOtherLeaves (leaves_of_places places) → AreOfOtherLeaves (leaves_of_places (drop n places))
apart_rest zero places apart = apart
apart_rest (suc n) [] apart = tt
apart_rest (suc n) (a ∷ places) (_, apart) = apart_rest n places apart

-- each leaf of the rest is apart from those of the first part
rest_apart : (n : ℕ) (places : List Dirfrag) → AreOfOtherLeaves (leaves_of_places places) → AllByRecursion (λ (a : Dirfrag). NotAmong (leaf_at a) (leaves_of_places (take n places))) (drop n places)
rest_apart zero places apart = none places
  where
    none : (ps : List Dirfrag) → AllByRecursion (λ (a : Dirfrag). NotAmong (leaf_at a) []) ps
    none [] = tt
    none (p ∷ ps) = (tt, none ps)
rest_apart (suc n) [] apart = tt
rest_apart (suc n) (a ∷ places) (each, apart) = joined (drop n places) (behind n places each) (rest_apart n places apart)
  where
    behind : (k : ℕ) (ps : List Dirfrag) → NotAmong (leaf_at a) (leaves_of_places ps) → AllByRecursion (λ (p : Dirfrag). leaf_at p ≡ leaf_at a → ⊥) (drop k ps)
    behind zero [] all = tt
    behind zero (p ∷ ps) (other, all) = (other, behind zero ps all)
    behind (suc k) [] all = tt
    behind (suc k) (p ∷ ps) (other, all) = behind k ps all

    joined : (ps : List Dirfrag) → AllByRecursion (λ (p : Dirfrag). leaf_at p ≡ leaf_at a → ⊥) ps → AllByRecursion (λ (p : Dirfrag). NotAmong (leaf_at p) (leaves_of_places (take n places))) ps
        → AllByRecursion (λ (p : Dirfrag). NotAmong (leaf_at p) (leaf_at a ∷ leaves_of_places (take n places))) ps
    joined [] each all = tt
    joined (p ∷ ps) (other, each) (one, all) = (((λ same. other (sym same)), one), joined ps each all)

-- so far the first of these leaves were committed, and the rest aren't clean
pub record CommitsFirst (old now : Core) (leaves rest : List Dirfrag) : Type 0 where
  pub apart : AreOfOtherLeaves (leaves_of_places rest)
  pub dirty : AllByRecursion (IsUncleanAt now.caches) rest
  pub whole : CommitsWhole (state_of old) (state_of now)
  pub jobs : now.jobs ≡ map.empty
  pub number : now.next_job ≡ old.next_job
  pub fewer : map.len (unclean now.caches) + length leaves ≡ map.len (unclean old.caches) + length rest
  pub tree : KeepsTree old now
  pub faults : now.faults ≡ old.faults
  pub sound : IsSoundCore now

-- a batch later
module _ (old now new : Core) (leaves rest batch after : List Dirfrag) (n : ℕ) (front : batch ≡ take n rest) (back : after ≡ drop n rest) (parts : length after + length batch ≡ length rest) (so_far : CommitsFirst old now leaves rest) where
  module _ (others : LeavesOtherLeaves (leaves_of_places batch) (unclean now.caches) (unclean new.caches)) (keeps_it : KeepsTree now new) where
    still : (xs : List Dirfrag) → AllByRecursion (IsUncleanAt now.caches) xs → AllByRecursion (λ (a : Dirfrag). NotAmong (leaf_at a) (leaves_of_places batch)) xs → AllByRecursion (IsUncleanAt new.caches) xs
    still [] all apart = tt
    still (a ∷ xs) (one, all) (other, apart) = (
      record { holds = may_hold_on now.caches new.caches keeps_it.caches a.rank (leaf_at a) one.holds; dirty = ap is_some (others.same (leaf_at a) other) ∙ one.dirty },
      still xs all apart,
    )

    pub commits_next : CommitsWhole (state_of now) (state_of new) → new.jobs ≡ map.empty → new.next_job ≡ now.next_job → map.len (unclean new.caches) + length batch ≡ map.len (unclean now.caches)
        → new.faults ≡ now.faults → IsSoundCore new → CommitsFirst old new leaves after
    commits_next whole jobs number less faults sound =
        let fewer = so_far.fewer in
        let apart = subst (λ ps. AllByRecursion (λ (a : Dirfrag). NotAmong (leaf_at a) (leaves_of_places ps)) (drop n rest)) (sym front) (rest_apart n rest so_far.apart) in
        record {
          apart = subst (λ ps. AreOfOtherLeaves (leaves_of_places ps)) (sym back) (apart_rest n rest so_far.apart);
          dirty = subst (AllByRecursion (IsUncleanAt new.caches)) (sym back) (still (drop n rest) (all_drop (IsUncleanAt now.caches) n rest so_far.dirty) apart);
          whole = whole_then (state_of old) (state_of now) (state_of new) so_far.whole whole;
          jobs = jobs;
          number = number ∙ so_far.number;
          fewer = omega (arith, fewer, less, parts);
          tree = steps_keep_tree old now new so_far.tree keeps_it;
          faults = faults ∙ so_far.faults;
          sound = sound;
        }
