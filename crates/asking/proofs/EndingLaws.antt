-- An export is taken on, step by step, to its end.
use Rattle.asking.proofs.Common.{Answer, Bool, BookState, Core, Err, Event, Fragment, Ino, IsLeft, IsSoundBook, Leaf, List, NoMemory, None, NothingToEvict, Ok, Option, Rank, Refusal, Result, Roots, Some, State, Steps, TreeState, UsesStep, [], ap, arith, false, inl, inr, length, refl, shown, subst, sym, true, ℕ, ◌++◌, ◌+◌, ◌<◌, ◌∙◌, ◌∷◌, ◌≡◌, ◌≢◌, ◌≤◌, ◌⊎◌}
use Rattle.std.specs.FinMap as map
use Rattle.std.specs.FinMap.{same_map}
use Rattle.std.specs.Prelude.{IsOk}
use Rattle.std.specs.Option.{option_map}
use Rattle.std.specs.Result.{result_err}
use Rattle.std.proofs.lemmas.List.{length-append}
use Rattle.std.proofs.lemmas.Option.{none-some, same_Some}
use Rattle.mds_types.proofs.LeafLaws.{get_beside, get_left, get_put, get_removed, leaf-exact, leaf-total, same_or_apart}
use Rattle.mds_types.specs.Leaf.{leaf_cmp}
use Rattle.dentry_cache.specs.CacheMap.{CacheMap, unclean_of}
use Rattle.export_steps.specs.Standing.{ComesTo, Standing, come_to, is_before_send, is_freezing, state_at}
use Rattle.export_steps.specs.declared.exports.ExportState.{ExportState}
use Rattle.export_steps.specs.declared.exports.ExportState.TheVariants as at
use Rattle.export_steps.specs.declared.exports.StandingExport.{StandingExport}
use Rattle.ranked_tree.specs.Importing.{KeepsRegion, LeavesCaches, MayNotImport, RefusesImport}
use Rattle.ranked_tree.specs.Sending.{SpellsRegion}
use Rattle.cluster_core.specs.Exporting.{CancelsAt, Check, ForMemory, IsFinishIn, IsUnseenStep, IsUnsent, KeepsTreeAndRoots, Never, SendsAt}
use Rattle.cluster_core.specs.SentBytes.{SentBytes, bytes_for, bytes_or_none}
use Rattle.cluster_core.specs.State.{LacksPlacesAt}
use Rattle.cluster_core.specs.declared.events.Answer.TheVariants.{Sent}
use Rattle.cluster_core.specs.declared.events.Event.TheVariants.{Cancel, Finish, Import, Prep, Send}
use Rattle.mds_types.specs.declared.refusals.Refusal.TheVariants.{WrongExportState}
use Rattle.asking.specs.Ending.{CancelsOr, EndsFrozen, EndsRefused, HandsOrCancels, HasBytes, HasEnded, IsFreezing, IsStepOn, KeepsOtherBytes, KeepsSpelled, StandsStill, TakesOn, TriesToSend}
use Rattle.asking.proofs.ReachedLaws.{all_then, runs_then}
use Rattle.asking.proofs.SpelledLaws.{spelled_finished, spelled_imported, spelled_kept, spelled_same}

abbrev Kept : Type 0
Kept = map.FinMap leaf_cmp (List ℕ)

-- ---- what is there

value_is : {A : Type 0} (o : Option A) (x y : A) → o ≡ Some x → o ≡ Some y → x ≡ y
value_is o x y is other = let same : Some x ≡ Some y = sym is ∙ other in cc

-- the export that is in a state
pub export_at : (m : Standing) (root : Leaf) (state : ExportState) → state_at m root ≡ Some state → (export : StandingExport) × (map.get m root ≡ Some export) × (export.state ≡ state)
export_at m root state is = go (map.get m root) refl is
  where
    go : (o : Option StandingExport) → map.get m root ≡ o → option_map (λ e. e.state) o ≡ Some state → (export : StandingExport) × (map.get m root ≡ Some export) × (export.state ≡ state)
    go None there is = let clash : None ≡ Some state = is in cc
    go (Some export) there is = (export, there, same_Some export.state state is)

pub state_of_it : (m : Standing) (root : Leaf) (export : StandingExport) → map.get m root ≡ Some export → state_at m root ≡ Some export.state
state_of_it m root export is = ap (λ (o : Option StandingExport). option_map (λ (e : StandingExport). e.state) o) is

module _ (m : Standing) (root : Leaf) where
  -- what is removed is gone, whatever it was
  pub gone_again : (export : StandingExport) → map.remove (map.insert m root export) root ≡ map.remove m root
  gone_again export = same_map leaf-total leaf-exact _ _ (λ leaf. go leaf (same_or_apart leaf root))
    where
      go : (leaf : Leaf) → (leaf ≡ root) ⊎ (leaf ≡ root → ⊥) → map.get (map.remove (map.insert m root export) root) leaf ≡ map.get (map.remove m root) leaf
      go leaf (inl same) =
          ap (λ (l : Leaf). map.get (map.remove (map.insert m root export) root) l) same
          ∙ (get_removed (map.insert m root export) root ∙ sym (ap (λ (l : Leaf). map.get (map.remove m root) l) same ∙ get_removed m root))
      go leaf (inr apart) = get_left (map.insert m root export) root leaf apart ∙ (get_beside m root export leaf apart ∙ sym (get_left m root leaf apart))

-- ---- what a step of an export leaves

pub record Unseen (root : Leaf) (old new : BookState) : Type 0 where
  pub same : new.history ≡ old.history
  pub tree : shown new.core.state ≡ shown old.core.state
  pub left : new.core.state ≡ record old.core.state { tree = new.core.state.tree; roots = new.core.state.roots; exports = new.core.state.exports }
  pub others : (other : Leaf) → (other ≡ root → ⊥) → map.get new.core.state.exports other ≡ map.get old.core.state.exports other
  pub spelled : KeepsSpelled old.core.state new.core.state root

module _ (root : Leaf) where
  -- a refused one leaves all
  pub unseen_left : (old new : BookState) → IsLeft old.core.state new.core.state old.history new.history → Unseen root old new
  unseen_left old new is = record {
    same = is.same;
    tree = ap (λ (s : State). shown s) is.left;
    left = subst (λ (s : State). s ≡ record old.core.state { tree = s.tree; roots = s.roots; exports = s.exports }) (sym is.left) refl;
    others = λ other apart. ap (λ (s : State). map.get s.exports other) is.left;
    spelled = spelled_same old.core.state new.core.state root is.left;
  }

  pub unseen_step : (old new : BookState) → IsUnseenStep old.core.state new.core.state old.history new.history
      → ((other : Leaf) → (other ≡ root → ⊥) → map.get new.core.state.exports other ≡ map.get old.core.state.exports other) → KeepsSpelled old.core.state new.core.state root → Unseen root old new
  unseen_step old new is others spelled = record { same = is.same; tree = is.tree; left = is.left; others = others; spelled = spelled }

  module _ (old new : Standing) (from to : ExportState) (is : ComesTo old new root from to) where
    pub came_others : (other : Leaf) → (other ≡ root → ⊥) → map.get new other ≡ map.get old other
    came_others other apart = ap (λ (m : Standing). map.get m other) is.changed ∙ get_beside old root (come_to to is.export) other apart

    pub came_here : map.get new root ≡ Some (come_to to is.export)
    came_here = ap (λ (m : Standing). map.get m root) is.changed ∙ get_put old root (come_to to is.export)

    pub came_to : state_at new root ≡ Some to
    came_to = state_of_it new root (come_to to is.export) came_here

-- ---- steps after steps

pub err_of : (r : Result Answer Refusal) (reason : Refusal) → result_err r ≡ Some reason → r ≡ Err reason
err_of (Ok answer) reason told = absurd (none-some reason told)
err_of (Err other) reason told = ap (λ (x : Refusal). Err x) (same_Some other reason told)

module _ (cancel : Bool) (root : Leaf) where
  -- none, for want of memory
  pub takes_nothing : (book : BookState) → TakesOn cancel root 0 (Some NoMemory) book book
  takes_nothing book = record {
    events = [];
    results = [];
    ran = refl;
    of_it = tt;
    few = omega arith;
    last = λ reason is. inr (sym (same_Some NoMemory reason is), tt);
    same = refl;
    tree = refl;
    left = refl;
    others = λ other apart. refl;
    spelled = λ other export bytes apart spells. spells;
  }

  pub takes_by : (old new : BookState) (result : Result Answer Refusal) (event : Event) → IsStepOn cancel root event → Steps old.core new.core old.history new.history result event → UsesStep old.core new.core result event → new.opening ≡ old.opening
      → IsSoundBook new → Unseen root old new → TakesOn cancel root 1 (result_err result) old new
  takes_by old new result event is steps uses same sound unseen = record {
    events = event ∷ [];
    results = result ∷ [];
    ran = (new, record { stepped = steps; uses = uses; same_opening = same }, sound, refl);
    of_it = (is, tt);
    few = omega arith;
    last = λ reason told. inl ([], ap (λ (r : Result Answer Refusal). r ∷ []) (err_of result reason told));
    same = unseen.same;
    tree = unseen.tree;
    left = unseen.left;
    others = unseen.others;
    spelled = unseen.spelled;
  }

  pub takes_within : (most all : ℕ) (refused : Option Refusal) (old new : BookState) → most ≤ all → TakesOn cancel root most refused old new → TakesOn cancel root all refused old new
  takes_within most all refused old new low one = record {
    events = one.events;
    results = one.results;
    ran = one.ran;
    of_it = one.of_it;
    few = (let a = one.few in omega (arith, a, low));
    last = one.last;
    same = one.same;
    tree = one.tree;
    left = one.left;
    others = one.others;
    spelled = one.spelled;
  }

  refused_then : (result : Result Answer Refusal) (results : List (Result Answer Refusal)) (reason : Refusal) → IsOk result → EndsRefused results reason → EndsRefused (result ∷ results) reason
  refused_then result results reason ok (inl end) = inl (result ∷ end.0, ap (λ (rs : List (Result Answer Refusal)). result ∷ rs) end.1)
  refused_then result results reason ok (inr (memory, all)) = inr (memory, (ok, all))

  -- a step that was made, and more
  pub step_then : (most all : ℕ) (refused : Option Refusal) (old mid new : BookState) → 1 + most ≤ all → (answer : Answer) (event : Event) → IsStepOn cancel root event → Steps old.core mid.core old.history mid.history (Ok answer) event
      → UsesStep old.core mid.core (Ok answer) event → mid.opening ≡ old.opening → IsSoundBook mid → Unseen root old mid → TakesOn cancel root most refused mid new → TakesOn cancel root all refused old new
  step_then most all refused old mid new low answer event is steps uses opening sound unseen other = record {
    events = event ∷ other.events;
    results = Ok answer ∷ other.results;
    ran = (mid, record { stepped = steps; uses = uses; same_opening = opening }, sound, other.ran);
    of_it = (is, other.of_it);
    few = (let a = other.few in omega (arith, low, a));
    last = λ reason told. refused_then (Ok answer) other.results reason refl (other.last reason told);
    same = other.same ∙ unseen.same;
    tree = other.tree ∙ unseen.tree;
    left = other.left ∙ ap (λ (s : State). record s { tree = new.core.state.tree; roots = new.core.state.roots; exports = new.core.state.exports }) unseen.left;
    others = λ leaf apart. other.others leaf apart ∙ unseen.others leaf apart;
    spelled = λ leaf export bytes apart spells. other.spelled leaf export bytes apart (unseen.spelled leaf export bytes apart spells);
  }

  -- steps of which the last was refused, and then one that ends it
  pub takes_then : (few most all : ℕ) (before : Option Refusal) (old mid new : BookState) → few + most ≤ all → TakesOn cancel root few before old mid → TakesOn cancel root most None mid new → TakesOn cancel root all None old new
  takes_then few most all before old mid new low one other = record {
    events = one.events ++ other.events;
    results = one.results ++ other.results;
    ran = runs_then old mid new one.events other.events one.results other.results one.ran other.ran;
    of_it = all_then (IsStepOn cancel root) one.events other.events one.of_it other.of_it;
    few = (let a = one.few in let b = other.few in let c = length-append one.events other.events in omega (arith, low, a, b, c));
    last = λ reason clash. absurd (none-some reason clash);
    same = other.same ∙ one.same;
    tree = other.tree ∙ one.tree;
    left = other.left ∙ ap (λ (s : State). record s { tree = new.core.state.tree; roots = new.core.state.roots; exports = new.core.state.exports }) one.left;
    others = λ leaf apart. other.others leaf apart ∙ one.others leaf apart;
    spelled = λ leaf export bytes apart spells. other.spelled leaf export bytes apart (one.spelled leaf export bytes apart spells);
  }

  -- ---- what is kept

  -- of what isn't sent there are no bytes
  pub unsent_has : (state : State) (kept : SentBytes) (export : StandingExport) → map.get state.exports root ≡ Some export → is_before_send export.state ≡ true → HasBytes state kept root
  unsent_has state kept export there unsent other stands sent =
      let is : other ≡ export = value_is (map.get state.exports root) other export stands there in
      let clash : false ≡ true = sym (ap is_before_send sent) ∙ (ap (λ (e : StandingExport). is_before_send e.state) is ∙ unsent) in cc

  same_has : (old new : State) (kept : SentBytes) → new ≡ old → HasBytes old kept root → HasBytes new kept root
  same_has old new kept same has = subst (λ (s : State). HasBytes s kept root) (sym same) has

  -- ---- an export goes on

  -- a step by which it has come to another state, and the rest
  module _ (old mid new : BookState) (before kept after : SentBytes) (from to : ExportState) (step : ComesTo old.core.state.exports mid.core.state.exports root from to) (freezing : is_freezing from ≡ true)
      (unsent : is_before_send to ≡ true → (is_before_send from ≡ true) × (mid.core.state.tree ≡ old.core.state.tree)) (roots : mid.core.state.roots ≡ old.core.state.roots) (answer : Answer) (event : Event)
      (is : IsStepOn cancel root event) (steps : Steps old.core mid.core old.history mid.history (Ok answer) event) (uses : UsesStep old.core mid.core (Ok answer) event) (opening : mid.opening ≡ old.opening) (sound : IsSoundBook mid) (unseen : Unseen root old mid) (bytes : KeepsOtherBytes before kept root) (has : HasBytes old.core.state before root → HasBytes mid.core.state kept root) (most all : ℕ) (low : 1 + most ≤ all) where
    by_hand : (export : StandingExport) → export ≡ come_to to step.export → HandsOrCancels cancel mid.core.state new.core.state root export → HandsOrCancels cancel old.core.state new.core.state root step.export
    by_hand export same (inl handed) = inl (handed ∙ (ap (λ (r : Roots). map.insert r root export.importer) roots ∙ ap (λ (e : StandingExport). map.insert old.core.state.roots root e.importer) same))
    by_hand export same (inr (allowed, early, kept_roots, kept_tree)) =
        let its = unsent (sym (ap (λ (e : StandingExport). is_before_send e.state) same) ∙ early) in
        inr (allowed, ap is_before_send step.was ∙ its.0, kept_roots ∙ roots, kept_tree ∙ its.1)

    pub ends_on : HasEnded cancel root most mid new kept after → HasEnded cancel root all old new before after
    ends_on its = record {
      export = step.export;
      stood = step.stood;
      freezing = ap is_freezing step.was ∙ freezing;
      taken = step_then most all None old mid new low answer event is steps uses opening sound unseen its.taken;
      ended = its.ended ∙ (ap (λ (m : Standing). map.remove m root) step.changed ∙ gone_again old.core.state.exports root (come_to to step.export));
      by = by_hand its.export (value_is (map.get mid.core.state.exports root) its.export (come_to to step.export) its.stood (came_here root old.core.state.exports mid.core.state.exports from to step)) its.by;
      bytes = λ other apart. its.bytes other apart ∙ bytes other apart;
    }

    pub goes_on : (result : Result (Unit {0}) Refusal) → EndsFrozen cancel root most mid new kept after result → EndsFrozen cancel root all old new before after result
    goes_on (Ok done) its = ends_on its
    goes_on (Err reason) its = record {
      export = its.export;
      stands = its.stands;
      freezing = its.freezing;
      taken = step_then most all (Some reason) old mid new low answer event is steps uses opening sound unseen its.taken;
      why = its.why;
      bytes = λ other apart. its.bytes other apart ∙ bytes other apart;
      kept = λ had. its.kept (has had);
    }

  -- ---- one that isn't sent, and is cancelled or not

  module _ (old mid new : BookState) (before after : SentBytes) (export : StandingExport) (stood : map.get old.core.state.exports root ≡ Some export) (freezing : is_freezing export.state ≡ true) (unsent : is_before_send export.state ≡ true)
      (few all : ℕ) (low : few + 1 ≤ all) (refusal : Refusal) (one : TakesOn cancel root few (Some refusal) old mid) (same : mid.core.state ≡ old.core.state)
      (why : (refusal ≡ NoMemory) ⊎ ((export.state ≡ at.Prepared) × SendsAt old.core.state old.core.state root (Err refusal))) (bytes : KeepsOtherBytes before after root) where
    abbrev Why : State → Refusal → Type 0
    Why state reason = (reason ≡ NoMemory) ⊎ ((export.state ≡ at.Prepared) × SendsAt state state root (Err reason))

    stops : (reason : Refusal) → CancelsOr cancel root mid new refusal (Err reason) → StandsStill cancel root all reason old new before after
    stops reason (is, off, still) =
        let state : new.core.state ≡ old.core.state = ap (λ (b : BookState). b.core.state) still ∙ same in
        let there : map.get new.core.state.exports root ≡ Some export = ap (λ (s : State). map.get s.exports root) state ∙ stood in
        record {
          export = export;
          stands = there;
          freezing = freezing;
          taken =
              takes_within few all (Some reason) old new (omega (arith, low))
              (subst (λ (b : BookState). TakesOn cancel root few (Some reason) old b) (sym still) (subst (λ (r : Refusal). TakesOn cancel root few (Some r) old mid) (sym is) one));
          why = inr (unsent, off, subst (λ (s : State). Why s reason) (sym state) (subst (λ (r : Refusal). Why old.core.state r) (sym is) why));
          bytes = bytes;
          kept = λ had. unsent_has new.core.state after export there unsent;
        }

    cancels : new.opening ≡ mid.opening → IsSoundBook new → CancelsOr cancel root mid new refusal (Ok tt) → HasEnded cancel root all old new before after
    cancels opening sound (allowed, answer, steps, uses) =
        let did : CancelsAt mid.core.state new.core.state root (Ok tt) = steps.does.1 in
        let gone : new.core.state.exports ≡ map.remove mid.core.state.exports root = did.1 in
        let others : (other : Leaf) → (other ≡ root → ⊥) → map.get new.core.state.exports other ≡ map.get mid.core.state.exports other =
        λ other apart. ap (λ (m : Standing). map.get m other) gone ∙ get_left mid.core.state.exports root other apart in
        record {
          export = export;
          stood = stood;
          freezing = freezing;
          taken =
              takes_then few 1 all (Some refusal) old mid new low one
              (takes_by mid new (Ok answer) (Cancel root.0 root.1) (allowed, refl) steps uses opening sound (unseen_step root mid new steps.does.2 others (spelled_kept mid.core.state new.core.state root did.2)));
          ended = gone ∙ ap (λ (s : State). map.remove s.exports root) same;
          by = inr (allowed, unsent, did.2.roots ∙ ap (λ (s : State). s.roots) same, did.2.tree ∙ ap (λ (s : State). s.tree) same);
          bytes = bytes;
        }

    pub cancels_or : (result : Result (Unit {0}) Refusal) → new.opening ≡ mid.opening → IsSoundBook new → CancelsOr cancel root mid new refusal result → EndsFrozen cancel root all old new before after result
    cancels_or (Ok done) opening sound its = cancels opening sound its
    cancels_or (Err reason) opening sound its = stops reason its

-- ---- each step

spells_so : (state : ExportState) (tree : TreeState) (roots : Roots) (root : Leaf) (export : StandingExport) (bytes : List ℕ) → SpellsRegion tree roots root export bytes → SpellsRegion tree roots root (come_to state export) bytes
spells_so state tree roots root export bytes its = record { export = its.export; spelled = its.spelled; handed = its.handed }

module _ (cancel : Bool) (dir : Ino) (f : Fragment) (old mid : BookState) (opening : mid.opening ≡ old.opening) (sound : IsSoundBook mid) where
  abbrev root : Leaf
  root = (dir, f)

  -- Prep
  module _ (new : BookState) (before after : SentBytes) where
    pub prepped : (answer : Answer) → Steps old.core mid.core old.history mid.history (Ok answer) (Prep dir f) → UsesStep old.core mid.core (Ok answer) (Prep dir f) → (result : Result (Unit {0}) Refusal) → EndsFrozen cancel root 3 mid new before after result → EndsFrozen cancel root 4 old new before after result
    prepped answer steps uses =
        let step : ComesTo old.core.state.exports mid.core.state.exports root at.Frozen at.Prepared = steps.does.1.0 in
        let keeps : KeepsTreeAndRoots old.core.state mid.core.state = steps.does.1.1 in
        goes_on cancel root old mid new before before after at.Frozen at.Prepared step refl (λ early. (refl, keeps.tree)) keeps.roots
        answer (Prep dir f) refl steps uses opening sound (unseen_step root old mid steps.does.2 (came_others root old.core.state.exports mid.core.state.exports at.Frozen at.Prepared step) (spelled_kept old.core.state mid.core.state root keeps))
        (λ other apart. refl)
        (λ had. unsent_has cancel root mid.core.state before (come_to at.Prepared step.export) (came_here root old.core.state.exports mid.core.state.exports at.Frozen at.Prepared step) refl)
        3 4 (omega arith)

    pub not_prepped : state_at old.core.state.exports root ≡ Some at.Frozen → (refusal : Refusal) → Steps old.core mid.core old.history mid.history (Err refusal) (Prep dir f) → UsesStep old.core mid.core (Err refusal) (Prep dir f) → new.opening ≡ mid.opening
        → IsSoundBook new → after ≡ before → (result : Result (Unit {0}) Refusal) → CancelsOr cancel root mid new refusal result → EndsFrozen cancel root 4 old new before after result
    not_prepped frozen refusal steps uses later good same result =
        let export = export_at old.core.state.exports root at.Frozen frozen in
        cancels_or cancel root old mid new before after export.0 export.1 (ap is_freezing export.2) (ap is_before_send export.2) 1 4 (omega arith) refusal
        (takes_by cancel root old mid (Err refusal) (Prep dir f) refl steps uses opening sound (unseen_left root old mid steps.does.1)) steps.does.1.left (inl (memory steps.does.0)) (λ other apart. ap (λ (k : SentBytes). map.get k.bytes other) same) result later
        good
      where
        memory : Check WrongExportState (state_at old.core.state.exports root ≢ Some at.Frozen) ForMemory refusal → refusal ≡ NoMemory
        memory (inl (named, wrong)) = absurd (wrong frozen)
        memory (inr (right, is)) = is

  -- Send
  module _ (before kept : SentBytes) where
    pub sends_these : (answer : Answer) → Steps old.core mid.core old.history mid.history (Ok answer) (Send dir f) → (bytes : List ℕ) × (answer ≡ Sent bytes)
    sends_these answer steps = (steps.does.0, steps.does.1)

    module _ (new : BookState) (after : SentBytes) where
      pub sent : (answer : Answer) → Steps old.core mid.core old.history mid.history (Ok answer) (Send dir f) → UsesStep old.core mid.core (Ok answer) (Send dir f) → (reserved : SentBytes) → reserved.bytes ≡ before.bytes
          → ((bytes : List ℕ) → answer ≡ Sent bytes → kept.bytes ≡ map.insert reserved.bytes root bytes) → (result : Result (Unit {0}) Refusal) → EndsFrozen cancel root 2 mid new kept after result → EndsFrozen cancel root 3 old new before after result
      sent answer steps uses reserved same put =
          let step : ComesTo old.core.state.exports mid.core.state.exports root at.Prepared at.Sent = steps.does.2.0 in
          let spells : SpellsRegion old.core.state.tree old.core.state.roots root step.export steps.does.0 = steps.does.2.1 in
          let keeps : KeepsTreeAndRoots old.core.state mid.core.state = steps.does.2.2 in
          let inserted : kept.bytes ≡ map.insert reserved.bytes root steps.does.0 = put steps.does.0 steps.does.1 in
          let here : bytes_for kept root ≡ steps.does.0 = ap (λ (m : Kept). bytes_or_none (map.get m root)) inserted ∙ ap bytes_or_none (get_put reserved.bytes root steps.does.0) in
          let now : SpellsRegion mid.core.state.tree mid.core.state.roots root (come_to at.Sent step.export) (bytes_for kept root) =
          subst (λ (t : TreeState). SpellsRegion t mid.core.state.roots root (come_to at.Sent step.export) (bytes_for kept root)) (sym keeps.tree)
          (subst (λ (r : Roots). SpellsRegion old.core.state.tree r root (come_to at.Sent step.export) (bytes_for kept root)) (sym keeps.roots)
          (subst (λ (b : List ℕ). SpellsRegion old.core.state.tree old.core.state.roots root (come_to at.Sent step.export) b) (sym here) (spells_so at.Sent old.core.state.tree old.core.state.roots root step.export steps.does.0 spells))) in
          let there : map.get mid.core.state.exports root ≡ Some (come_to at.Sent step.export) = came_here root old.core.state.exports mid.core.state.exports at.Prepared at.Sent step in
          goes_on cancel root old mid new before kept after at.Prepared at.Sent step refl (λ early. let clash : false ≡ true = early in cc) keeps.roots
          answer (Send dir f) refl steps uses opening sound (unseen_step root old mid steps.does.3 (came_others root old.core.state.exports mid.core.state.exports at.Prepared at.Sent step) (spelled_kept old.core.state mid.core.state root keeps))
          (λ other apart. ap (λ (m : Kept). map.get m other) inserted ∙ (get_beside reserved.bytes root steps.does.0 other apart ∙ ap (λ (m : Kept). map.get m other) same))
          (λ had export stands is.
          subst (λ (e : StandingExport). SpellsRegion mid.core.state.tree mid.core.state.roots root e (bytes_for kept root)) (sym (value_is (map.get mid.core.state.exports root) export (come_to at.Sent step.export) stands there)) now)
          2 3 (omega arith)

  module _ (new : BookState) (before after : SentBytes) where
    pub not_sent : state_at old.core.state.exports root ≡ Some at.Prepared → (refusal : Refusal) → Steps old.core mid.core old.history mid.history (Err refusal) (Send dir f) → UsesStep old.core mid.core (Err refusal) (Send dir f) → new.opening ≡ mid.opening
        → IsSoundBook new → after.bytes ≡ before.bytes → (result : Result (Unit {0}) Refusal) → CancelsOr cancel root mid new refusal result → EndsFrozen cancel root 3 old new before after result
    not_sent prepared refusal steps uses later good same result =
        let export = export_at old.core.state.exports root at.Prepared prepared in
        cancels_or cancel root old mid new before after export.0 export.1 (ap is_freezing export.2) (ap is_before_send export.2) 1 3 (omega arith) refusal
        (takes_by cancel root old mid (Err refusal) (Send dir f) refl steps uses opening sound (unseen_left root old mid steps.does.1)) steps.does.1.left (inr (export.2, steps.does.0)) (λ other apart. ap (λ (m : Kept). map.get m other) same)
        result later good

  -- Import
  module _ (new : BookState) (before after : SentBytes) where
    pub imported : (answer : Answer) (bytes : List ℕ) → Steps old.core mid.core old.history mid.history (Ok answer) (Import dir f bytes) → UsesStep old.core mid.core (Ok answer) (Import dir f bytes) → HasEnded cancel root 1 mid new before after → HasEnded cancel root 2 old new before after
    imported answer bytes steps uses =
        let step : ComesTo old.core.state.exports mid.core.state.exports root at.Sent at.Imported = steps.does.1.step in
        let there : map.get mid.core.state.exports root ≡ Some (come_to at.Imported step.export) = came_here root old.core.state.exports mid.core.state.exports at.Sent at.Imported step in
        ends_on cancel root old mid new before before after at.Sent at.Imported step refl (λ early. let clash : false ≡ true = early in cc) steps.does.1.roots
        answer (Import dir f bytes) refl steps uses opening sound (unseen_step root old mid steps.does.2 (came_others root old.core.state.exports mid.core.state.exports at.Sent at.Imported step) (spelled_imported old.core.state mid.core.state root steps.does.1.renewed steps.does.1.roots))
        (λ other apart. refl)
        (λ had export stands is.
        let same : export ≡ come_to at.Imported step.export = value_is (map.get mid.core.state.exports root) export (come_to at.Imported step.export) stands there in
        let state : at.Imported ≡ at.Sent = sym (ap (λ (e : StandingExport). e.state) same) ∙ is in absurd cc)
        1 2 (omega arith)

  module _ (kept : SentBytes) where
    abbrev May : Core → StandingExport → Refusal → Type 0
    May core export reason = MayNotImport (λ count rank. LacksPlacesAt count core rank) core.state.tree core.state.roots root export (bytes_for kept root) reason

    pub not_imported : state_at old.core.state.exports root ≡ Some at.Sent → (refusal : Refusal) (bytes : List ℕ) → bytes ≡ bytes_for kept root → Steps old.core mid.core old.history mid.history (Err refusal) (Import dir f bytes)
        → UsesStep old.core mid.core (Err refusal) (Import dir f bytes) → StandsStill cancel root 2 refusal old mid kept kept
    not_imported was refusal bytes are steps uses = by_why steps.does.0
      where
        left : mid.core.state ≡ old.core.state
        left = steps.does.1.left

        caches : refusal ≡ NothingToEvict → mid.core.caches ≡ old.core.caches
        caches is = go uses.1
          where
            keeps : (importer : Rank) → KeepsRegion importer old.core.caches mid.core.caches refusal → mid.core.caches ≡ old.core.caches
            keeps importer (inl same) = same
            keeps importer (inr (memory, leaves, wants)) = let clash : NoMemory ≡ NothingToEvict = sym memory ∙ is in absurd cc

            go : LeavesCaches old.core.state.exports root old.core.caches mid.core.caches refusal → mid.core.caches ≡ old.core.caches
            go (inl same) = same
            go (inr (export, stands, kept_region)) = keeps export.importer kept_region

        on_state : (export : StandingExport) → MayNotImport (λ count rank. LacksPlacesAt count mid.core rank) old.core.state.tree old.core.state.roots root export (bytes_for kept root) refusal → May mid.core export refusal
        on_state export = subst (λ (s : State). MayNotImport (λ count rank. LacksPlacesAt count mid.core rank) s.tree s.roots root export (bytes_for kept root) refusal) (sym left)

        on_bytes : (export : StandingExport) → MayNotImport (λ count rank. LacksPlacesAt count mid.core rank) old.core.state.tree old.core.state.roots root export bytes refusal → May mid.core export refusal
        on_bytes export may =
            on_state export (subst (λ (b : List ℕ). MayNotImport (λ count rank. LacksPlacesAt count mid.core rank) old.core.state.tree old.core.state.roots root export b refusal) are may)

        may_not : (export : StandingExport) → MayNotImport (λ count rank. LacksPlacesAt count old.core rank) old.core.state.tree old.core.state.roots root export bytes refusal → May mid.core export refusal
        may_not export (inl memory) = inl memory
        may_not export (inr (inl damaged)) = on_bytes export (inr (inl damaged))
        may_not export (inr (inr (named, sends, lacks))) =
            on_bytes export (inr (inr (named, sends, subst (λ (c : CacheMap). c.cap < map.len (unclean_of c export.importer.0) + length sends.export.frags) (sym (caches named)) lacks)))

        by_why : RefusesImport (λ count rank. LacksPlacesAt count old.core rank) old.core.state.tree old.core.state.roots old.core.state.exports root bytes refusal → StandsStill cancel root 2 refusal old mid kept kept
        by_why (inl (named, wrong)) = absurd (wrong was)
        by_why (inr (export, stands, is, may)) = record {
          export = export;
          stands = ap (λ (s : State). map.get s.exports root) left ∙ stands;
          freezing = ap is_freezing is;
          taken = takes_within cancel root 1 2 (Some refusal) old mid (omega arith) (takes_by cancel root old mid (Err refusal) (Import dir f bytes) refl steps uses opening sound (unseen_left root old mid steps.does.1));
          why = inl (is, may_not export may);
          bytes = λ other apart. refl;
          kept = same_has cancel root old.core.state mid.core.state kept left;
        }

  -- Finish
  module _ (before after : SentBytes) where
    pub finished : IsSoundBook old → (answer : Answer) → Steps old.core mid.core old.history mid.history (Ok answer) (Finish dir f) → UsesStep old.core mid.core (Ok answer) (Finish dir f) → after.bytes ≡ map.remove before.bytes root → HasEnded cancel root 1 old mid before after
    finished good answer steps uses forgot =
        let did : IsFinishIn old.core.state mid.core.state root = steps.does.1 in
        let others : (other : Leaf) → (other ≡ root → ⊥) → map.get mid.core.state.exports other ≡ map.get old.core.state.exports other =
        λ other apart. ap (λ (m : Standing). map.get m other) did.ended ∙ get_left old.core.state.exports root other apart in
        let spelled : KeepsSpelled old.core.state mid.core.state root =
        spelled_finished old.core.state mid.core.state root did.export.exporter did.export.importer (good.exported.placed root did.export did.stood (ap is_freezing did.imported)) did.roots did.tree in
        record {
          export = did.export;
          stood = did.stood;
          freezing = ap is_freezing did.imported;
          taken = takes_by cancel root old mid (Ok answer) (Finish dir f) refl steps uses opening sound (unseen_step root old mid steps.does.2 others spelled);
          ended = did.ended;
          by = inl did.roots;
          bytes = λ other apart. ap (λ (m : Kept). map.get m other) forgot ∙ get_left before.bytes root other apart;
        }

    pub never_unfinished : state_at old.core.state.exports root ≡ Some at.Imported → (refusal : Refusal) → Steps old.core mid.core old.history mid.history (Err refusal) (Finish dir f) → ⊥
    never_unfinished is refusal steps = go steps.does.0
      where
        go : Check WrongExportState (state_at old.core.state.exports root ≢ Some at.Imported) Never refusal → ⊥
        go (inl (named, wrong)) = wrong is
        go (inr (right, never)) = never

  -- Cancel
  pub never_uncancelled : IsUnsent old.core.state root → (refusal : Refusal) → Steps old.core mid.core old.history mid.history (Err refusal) (Cancel dir f) → ⊥
  never_uncancelled is refusal steps = go steps.does.0
    where
      go : Check WrongExportState (IsUnsent old.core.state root → ⊥) Never refusal → ⊥
      go (inl (named, wrong)) = wrong is
      go (inr (right, never)) = never

-- ---- where no step was made, for want of memory

abbrev pub option_freezes : Option ExportState → Bool
option_freezes None = false
option_freezes (Some state) = is_freezing state

module _ (cancel : Bool) (root : Leaf) (book : BookState) (before after : SentBytes) where
  pub no_room : state_at book.core.state.exports root ≡ Some at.Prepared → (new : BookState) → new.opening ≡ book.opening → IsSoundBook new → after.bytes ≡ before.bytes → (result : Result (Unit {0}) Refusal)
      → CancelsOr cancel root book new NoMemory result → EndsFrozen cancel root 3 book new before after result
  no_room prepared new later good same result =
      let export = export_at book.core.state.exports root at.Prepared prepared in
      cancels_or cancel root book book new before after export.0 export.1 (ap is_freezing export.2) (ap is_before_send export.2) 0 3 (omega arith) NoMemory (takes_nothing cancel root book) refl (inl refl)
      (λ other apart. ap (λ (m : Kept). map.get m other) same) result later good

  pub no_copy : state_at book.core.state.exports root ≡ Some at.Sent → after ≡ before → StandsStill cancel root 2 NoMemory book book before after
  no_copy sent same =
      let export = export_at book.core.state.exports root at.Sent sent in
      record {
        export = export.0;
        stands = export.1;
        freezing = ap is_freezing export.2;
        taken = takes_within cancel root 0 2 (Some NoMemory) book book (omega arith) (takes_nothing cancel root book);
        why = inl (export.2, inl refl);
        bytes = λ other apart. ap (λ (k : SentBytes). map.get k.bytes other) same;
        kept = λ had. subst (λ (k : SentBytes). HasBytes book.core.state k root) (sym same) had;
      }

  pub unsent_at : (state : ExportState) → is_before_send state ≡ true → state_at book.core.state.exports root ≡ Some state → IsUnsent book.core.state root
  unsent_at state early is = let export = export_at book.core.state.exports root state is in (export.0, export.1, ap is_before_send export.2 ∙ early)

  -- it wasn't sent, or there was no room
  pub not_sent_so : state_at book.core.state.exports root ≡ Some at.Prepared → (mid new : BookState) → mid.opening ≡ book.opening → IsSoundBook mid → (refusal : Refusal) → TriesToSend root book mid (Err refusal) → new.opening ≡ mid.opening → IsSoundBook new
      → after.bytes ≡ before.bytes → (result : Result (Unit {0}) Refusal) → CancelsOr cancel root mid new refusal result → EndsFrozen cancel root 3 book new before after result
  not_sent_so prepared mid new opening sound refusal (inl (steps, uses)) later good same result its =
      not_sent cancel root.0 root.1 book mid opening sound new before after prepared refusal steps uses later good same result its
  not_sent_so prepared mid new opening sound refusal (inr (is, still)) later good same result its =
      no_room prepared new (later ∙ opening) good same result
      (subst (λ (r : Refusal). CancelsOr cancel root book new r result) is (subst (λ (b : BookState). CancelsOr cancel root b new refusal result) still its))

  unsent_mid : (mid : BookState) (refusal : Refusal) → TriesToSend root book mid (Err refusal) → mid.core.state ≡ book.core.state
  unsent_mid mid refusal (inl (steps, uses)) = steps.does.1.left
  unsent_mid mid refusal (inr (is, still)) = ap (λ (b : BookState). b.core.state) still

  pub unsent_then : state_at book.core.state.exports root ≡ Some at.Prepared → (mid : BookState) (refusal : Refusal) → TriesToSend root book mid (Err refusal) → IsUnsent mid.core.state root
  unsent_then prepared mid refusal tries = subst (λ (s : State). IsUnsent s root) (sym (unsent_mid mid refusal tries)) (unsent_at at.Prepared refl prepared)

  pub ends_within : (most all : ℕ) (new : BookState) → most ≤ all → (result : Result (Unit {0}) Refusal) → EndsFrozen cancel root most book new before after result → EndsFrozen cancel root all book new before after result
  ends_within most all new low (Ok done) its = record {
    export = its.export;
    stood = its.stood;
    freezing = its.freezing;
    taken = takes_within cancel root most all None book new low its.taken;
    ended = its.ended;
    by = its.by;
    bytes = its.bytes;
  }
  ends_within most all new low (Err reason) its = record {
    export = its.export;
    stands = its.stands;
    freezing = its.freezing;
    taken = takes_within cancel root most all (Some reason) book new low its.taken;
    why = its.why;
    bytes = its.bytes;
    kept = its.kept;
  }

  pub never_started : (state : Option ExportState) → state_at book.core.state.exports root ≡ state → option_freezes state ≡ false → IsFreezing book.core.state.exports root → ⊥
  never_started state is thaws (export, there, freezing) =
      let its : state ≡ Some export.state = sym is ∙ state_of_it book.core.state.exports root export there in
      let clash : false ≡ true = sym thaws ∙ (ap option_freezes its ∙ freezing) in cc

  pub freezing_at : (state : ExportState) → is_freezing state ≡ true → state_at book.core.state.exports root ≡ Some state → IsFreezing book.core.state.exports root
  freezing_at state freezes is = let export = export_at book.core.state.exports root state is in (export.0, export.1, ap is_freezing export.2 ∙ freezes)
