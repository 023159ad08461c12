-- Exports are ended one after the other, until a request may change what it would.
use Rattle.asking.proofs.Common.{BookState, Core, Entry, Err, Frozen, IsSoundBook, Leaf, List, NoInodes, NoMemory, None, NoneWaits, NotAuthority, NothingToEvict, Ok, Opening, Option, Rank, Receipt, Refusal, Request, Result, Roots, Some, State, StoreFault, TreeState, Trimmed, WhyItWaits, [], ap, arith, cond, false, inl, inr, length, refl, subst, sym, true, ℕ, ◌++◌, ◌+◌, ◌-◌, ◌<◌, ◌∙◌, ◌∷◌, ◌≡◌, ◌≢◌, ◌≤◌, ◌⊎◌}
use Rattle.std.specs.FinMap as map
use Rattle.std.specs.FinMap.{empty_of_len, get-empty, len-remove}
use Rattle.std.specs.Prelude.{Bool, is_some}
use Rattle.std.specs.Option.{option_map}
use Rattle.std.proofs.lemmas.Bool.{cases_eq}
use Rattle.std.proofs.lemmas.List.{length-append}
use Rattle.mds_types.specs.Leaf.{leaf_cmp}
use Rattle.mds_types.proofs.LeafLaws.{get_removed, leaf-total, same_or_apart}
use Rattle.std.specs.declared.cmp.Ordering.TheVariants.{Less}
use Rattle.dentry_cache.specs.Candidates.{IsBehind}
use Rattle.export_steps.specs.ByExporter.{IsNextOf}
use Rattle.export_steps.specs.ByExporter.{IsRootBehind as IsBehindRoot}
use Rattle.export_steps.specs.Standing.{Standing, is_freezing}
use Rattle.export_steps.specs.declared.exports.ExportState.{ExportState}
use Rattle.export_steps.specs.declared.exports.ExportState.TheVariants as at
use Rattle.export_steps.specs.declared.exports.StandingExport.{StandingExport}
use Rattle.cluster_core.specs.OneThread.{InOrder, IsOneThread}
use Rattle.ranked_tree.specs.Sending.{SpellsRegion}
use Rattle.cluster_core.specs.Exporting.{SendsAt}
use Rattle.cluster_core.specs.SentBytes.{SentBytes, bytes_for, bytes_or_none}
use Rattle.asking.specs.Ending.{EndsExport, HasAllBytes, HasEnded, IsFreezing, NoneFreezing, NoneFreezingOf, StandsStill, TakesOn, WhyNotEnded}
use Rattle.asking.specs.Once.{AsksOnce, WhyNone}
use Rattle.asking.specs.Reached.{receipt_in}
use Rattle.asking.specs.Through.{AsksCopy, AsksThrough, CantSend, Concludes, EndsFor, GoesThrough, IsToldOf}
use Rattle.asking.proofs.LiveLaws.{is_one_of_16}
use Rattle.asking.proofs.OneLaws.{limit_of, limit_through}

-- ---- the first export that froze

behind_so : (after : Option Leaf) (root : Leaf) → IsBehindRoot after root → IsBehind after root
behind_so None root behind = tt
behind_so (Some one) root behind = behind

-- none of a rank's that froze has a root before this one
abbrev pub AllBehind : Standing → Rank → Option Leaf → Type 0
AllBehind exports rank after =
    (root : Leaf) (export : StandingExport) → map.get exports root ≡ Some export → export.exporter ≡ rank → is_freezing export.state ≡ true → IsBehindRoot after root

pub behind_next : (exports : Standing) (rank : Rank) (after : Option Leaf) (found : _) → IsNextOf exports rank after (Some found) → IsBehind after found.0
behind_next exports rank after found next = behind_so after found.0 next.behind

pub all_behind : (exports : Standing) (rank : Rank) (after : Option Leaf) (root : Leaf) (export : StandingExport) → AllBehind exports rank after → IsNextOf exports rank after (Some (root, export)) → is_freezing export.state ≡ false → AllBehind exports rank (Some root)
all_behind exports rank after root export all next thawed other another stands of freezing = go (next.least other another stands of (all other another stands of freezing))
  where
    go : (other ≡ root) ⊎ (leaf_cmp root other ≡ Less) → leaf_cmp root other ≡ Less
    go (inr less) = less
    go (inl same) =
        let is : Some another ≡ Some export = sym stands ∙ (ap (λ (l : Leaf). map.get exports l) same ∙ next.stands) in
        let one : another ≡ export = cc in
        let clash : true ≡ false = sym freezing ∙ (ap (λ (e : StandingExport). is_freezing e.state) one ∙ thawed) in absurd cc

pub none_of_rank : (exports : Standing) (rank : Rank) (after : Option Leaf) → AllBehind exports rank after → IsNextOf exports rank after None → NoneFreezingOf exports rank
none_of_rank exports rank after all none root export stands of freezing = none root export stands of (all root export stands of freezing)

pub first_is : (exports : Standing) (rank : Rank) (after : Option Leaf) (root : Leaf) (export : StandingExport) → IsNextOf exports rank after (Some (root, export)) → is_freezing export.state ≡ true → IsFreezing exports root
first_is exports rank after root export next freezing = (export, next.stands, freezing)

-- none of the ranks so far
abbrev pub NoneBelow : Standing → ℕ → Type 0
NoneBelow exports n = (k : ℕ) → k < n → NoneFreezingOf exports (record { 0 = k })

pub none_more : (exports : Standing) (n : ℕ) → NoneBelow exports n → NoneFreezingOf exports (record { 0 = n }) → NoneBelow exports (n + 1)
none_more exports n none last k below root export stands of freezing = go (cases_eq k n)
  where
    go : (k ≡ n) ⊎ (k ≡ n → ⊥) → ⊥
    go (inl same) = last root export stands (of ∙ (λ i. record { 0 = same i })) freezing
    go (inr apart) = none k (omega (arith, below, apart)) root export stands of freezing

pub none_at_all : (book : BookState) → IsSoundBook book → (n : ℕ) → 16 ≤ n → NoneBelow book.core.state.exports n → NoneFreezing book.core.state.exports
none_at_all book sound n all none root (export, stands, freezing) =
    let there = (sound.exported.there root export stands).0 in
    let low : export.exporter.0 < 16 = is_one_of_16 book.opening book.history book.core sound export.exporter (omega (arith, there, sound.ranks.inboxes, sound.ranks.caches)) in
    none export.exporter.0 (omega (arith, low, all)) root export stands refl freezing

-- ---- refused, since something froze

-- where none froze it isn't that
frozen_not : (old new : Core) (past : List Entry) (request : Request) → NoneFreezing old.state.exports → WhyItWaits old new past request Frozen → ⊥
frozen_not old new past request none (inl h) = let clash : Frozen ≡ NoMemory = h.0 in cc
frozen_not old new past request none (inr (is, inl h)) = let clash : Frozen ≡ NoMemory = h in cc
frozen_not old new past request none (inr (is, inr (inl h))) = let clash : Frozen ≡ StoreFault = h.0 in cc
frozen_not old new past request none (inr (is, inr (inr (inl h)))) = let clash : Frozen ≡ NothingToEvict = h.0 in cc
frozen_not old new past request none (inr (is, inr (inr (inr (named, (leaf, has, frozen)))))) = none frozen.root (frozen.export, frozen.stands, frozen.freezing)

pub never_frozen_once : (old new : Core) (past now : List Entry) (rank : Rank) (request : Request) (reason : Refusal) → NoneFreezing old.state.exports → AsksOnce old new past now rank request (Err reason) → reason ≢ Frozen
never_frozen_once old new past now rank request reason none once is = go (subst (λ (r : Refusal). AsksOnce old new past now rank request (Err r)) is once).0
  where
    go : WhyNone old new past rank request Frozen → ⊥
    go (inl h) = let clash : Frozen ≡ NotAuthority = h.0 in cc
    go (inr (inl h)) = let clash : Frozen ≡ Trimmed = h.0 in cc
    go (inr (inr (inl h))) = let clash : Frozen ≡ NoInodes = h.0 in cc
    go (inr (inr (inr why))) = frozen_not old new past request none why

-- such an ask leaves the exports
pub exports_once : (old new : BookState) (rank : Rank) (request : Request) (reason : Refusal) → AsksOnce old.core new.core old.history new.history rank request (Err reason) → new.core.state.exports ≡ old.core.state.exports
exports_once old new rank request reason (why, inl (same, still)) = ap (λ (c : Core). c.state.exports) same
exports_once old new rank request reason (why, inr is) = ap (λ (s : State). s.exports) is.left

-- the copy was asked
pub copy_asked : (old new : BookState) (rank : Rank) (request : Request) (reason : Refusal) → reason ≢ NoMemory → AsksCopy old new rank request (Err reason) → AsksOnce old.core new.core old.history new.history rank request (Err reason)
copy_asked old new rank request reason other (inl once) = once
copy_asked old new rank request reason other (inr (is, same)) = let clash : ◌≡◌ {A = Result Receipt Refusal} (Err reason) (Err NoMemory) = is in absurd (other cc)

-- ---- the bytes that are kept

same_has : (old new : State) (kept : SentBytes) → new.exports ≡ old.exports → new.tree ≡ old.tree → new.roots ≡ old.roots → HasAllBytes old kept → HasAllBytes new kept
same_has old new kept exports tree roots has root export stands sent =
    subst (λ (t : TreeState). SpellsRegion t new.roots root export (bytes_for kept root)) (sym tree)
    (subst (λ (r : Roots). SpellsRegion old.tree r root export (bytes_for kept root)) (sym roots) (has root export (ap (λ (m : Standing). map.get m root) (sym exports) ∙ stands) sent))

-- an ask leaves them
pub has_once : (old new : BookState) (kept : SentBytes) (rank : Rank) (request : Request) (reason : Refusal) → AsksOnce old.core new.core old.history new.history rank request (Err reason) → HasAllBytes old.core.state kept → HasAllBytes new.core.state kept
has_once old new kept rank request reason (why, inl (same, still)) has = subst (λ (c : Core). HasAllBytes c.state kept) (sym same) has
has_once old new kept rank request reason (why, inr is) has =
    same_has old.core.state new.core.state kept (ap (λ (s : State). s.exports) is.left) (ap (λ (s : State). s.tree) is.left) (ap (λ (s : State). s.roots) is.left) has

-- and so does an export that ends
pub has_ended : (cancel : Bool) (root : Leaf) (most : ℕ) (old new : BookState) (before after : SentBytes) → HasEnded cancel root most old new before after → HasAllBytes old.core.state before → HasAllBytes new.core.state after
has_ended cancel root most old new before after its has other export stands sent = go (same_or_apart other root)
  where
    go : (other ≡ root) ⊎ (other ≡ root → ⊥) → SpellsRegion new.core.state.tree new.core.state.roots other export (bytes_for after other)
    go (inl same) =
        let gone : map.get new.core.state.exports other ≡ None = ap (λ (l : Leaf). map.get new.core.state.exports l) same ∙ (ap (λ (m : Standing). map.get m root) its.ended ∙ get_removed old.core.state.exports root) in
        let clash : None ≡ Some export = sym gone ∙ stands in absurd cc
    go (inr apart) =
        subst (λ (b : List ℕ). SpellsRegion new.core.state.tree new.core.state.roots other export b) (ap bytes_or_none (sym (its.bytes other apart)))
        (its.taken.spelled other export (bytes_for before other) apart (has other export (sym (its.taken.others other apart) ∙ stands) sent))

-- where they are right, an export that stands still, and not for want of memory or places, can't be sent
pub cant_send : (cancel : Bool) (root : Leaf) (most : ℕ) (refusal : Refusal) (old new : BookState) (before after : SentBytes) → StandsStill cancel root most refusal old new before after → HasAllBytes old.core.state before
    → refusal ≢ NoMemory → refusal ≢ NothingToEvict → CantSend cancel new.core.state
cant_send cancel root most refusal old new before after its has memory places = by_why its.why
  where
    by_send : its.export.state ≡ at.Prepared → cancel ≡ false → SendsAt new.core.state new.core.state root (Err refusal) → CantSend cancel new.core.state
    by_send prepared off (inl (named, wrong)) =
        absurd (wrong (ap (λ (o : Option StandingExport). option_map (λ (e : StandingExport). e.state) o) its.stands ∙ ap (λ (s : ExportState). Some s) prepared))
    by_send prepared off (inr (right, inr (few, is))) = absurd (memory is)
    by_send prepared off (inr (right, inl (named, many))) = (
      off,
      root,
      ap (λ (o : Option StandingExport). option_map (λ (e : StandingExport). e.state) o) its.stands ∙ ap (λ (s : ExportState). Some s) prepared,
      subst (λ (r : Refusal). SendsAt new.core.state new.core.state root (Err r)) named (inr (right, inl (named, many))),
    )

    by_why : WhyNotEnded cancel new.core after root its.export refusal → CantSend cancel new.core.state
    by_why (inl (sent, inl is)) = absurd (memory is)
    by_why (inl (sent, inr (inl (named, wrong)))) = absurd (wrong (its.kept (has root) its.export its.stands sent))
    by_why (inl (sent, inr (inr (named, spells, lacks)))) = absurd (places named)
    by_why (inr (early, off, inl is)) = absurd (memory is)
    by_why (inr (early, off, inr (prepared, sends))) = by_send prepared off sends

-- ---- one export ended

-- a map that loses a key gets shorter
shorter : (m : Standing) (root : Leaf) (export : StandingExport) → map.get m root ≡ Some export → map.len (map.remove m root) + 1 ≡ map.len m
shorter m root export there =
    let is : is_some (map.get m root) ≡ true = ap is_some there in
    let fewer : map.len (map.remove m root) ≡ map.len m - 1 = len-remove leaf-total m root ∙ ap (λ b. cond b (map.len m - 1) (map.len m)) is in
    let some : map.len m ≡ 0 → ⊥ = λ none.
    let clash : false ≡ true = sym (ap (λ (n : Standing). is_some (map.get n root)) (empty_of_len m none) ∙ ap is_some (get-empty leaf_cmp root)) ∙ is in cc in
    omega (arith, fewer, some)

module _ (cancel : Bool) (rank : Rank) (request : Request) where
  -- so many ended, and so many stand
  pub record HasGone (old new : BookState) (before after : SentBytes) : Type 0 where
    pub roots : List Leaf
    pub left : length roots + map.len new.core.state.exports ≡ map.len old.core.state.exports
    pub through : GoesThrough cancel rank request roots old new before after

  pub gone_none : (book : BookState) (kept : SentBytes) → HasGone book book kept kept
  gone_none book kept = record { roots = []; left = omega arith; through = (refl, refl) }

  goes_more : (roots : List Leaf) (root : Leaf) (old mid new : BookState) (before kept after : SentBytes) → GoesThrough cancel rank request roots old mid before kept → EndsFor cancel rank request root mid new kept after (Ok tt)
      → GoesThrough cancel rank request (roots ++ root ∷ []) old new before after
  goes_more [] root old mid new before kept after (same, still) ends = (
    new,
    after,
    subst (λ (k : SentBytes). EndsFor cancel rank request root old new k after (Ok tt)) still (subst (λ (b : BookState). EndsFor cancel rank request root b new kept after (Ok tt)) same ends),
    (refl, refl),
  )
  goes_more (one ∷ roots) root old mid new before kept after (next, some, first, rest) ends = (next, some, first, goes_more roots root next mid new some kept after rest ends)

  -- an export ends
  module _ (root : Leaf) (old mid asked new : BookState) (before kept after : SentBytes) (gone : HasGone old mid before kept) (refused : AsksOnce mid.core asked.core mid.history asked.history rank request (Err Frozen)) (same : asked.opening ≡ mid.opening) where
    exports : asked.core.state.exports ≡ mid.core.state.exports
    exports = exports_once mid asked rank request Frozen refused

    freezing_still : IsFreezing mid.core.state.exports root → IsFreezing asked.core.state.exports root
    freezing_still is = subst (λ (m : Standing). IsFreezing m root) (sym exports) is

    module _ (is : IsFreezing mid.core.state.exports root) where
      ended : EndsExport cancel root asked new kept after (Ok tt) → HasEnded cancel root 4 asked new kept after
      ended (inl (freezing, its)) = its
      ended (inr (none, clash, same_book, same_bytes)) = absurd (none (freezing_still is))

      stood : (refusal : Refusal) → EndsExport cancel root asked new kept after (Err refusal) → StandsStill cancel root 4 refusal asked new kept after
      stood refusal (inl (freezing, its)) = its
      stood refusal (inr (none, named, same_book, same_bytes)) = absurd (none (freezing_still is))

      pub gone_one : EndsExport cancel root asked new kept after (Ok tt) → HasGone old new before after
      gone_one ends =
          let its = ended ends in
          let count = shorter asked.core.state.exports root its.export its.stood in
          let now = ap (λ (m : Standing). map.len m) its.ended in
          let were = ap (λ (m : Standing). map.len m) exports in
          let so_far = gone.left in
          record {
            roots = gone.roots ++ root ∷ [];
            left = omega (arith, length-append gone.roots (root ∷ []), count, now, were, so_far);
            through = goes_more gone.roots root old mid new before kept after gone.through (record { asked = asked; refused = refused; same_opening = same; ends = its });
          }

      -- one fewer stands
      pub fewer_left : EndsExport cancel root asked new kept after (Ok tt) → map.len new.core.state.exports < map.len mid.core.state.exports
      fewer_left ends =
          let its = ended ends in
          let count = shorter asked.core.state.exports root its.export its.stood in
          let now = ap (λ (m : Standing). map.len m) its.ended in
          let were = ap (λ (m : Standing). map.len m) exports in
          omega (arith, count, now, were)

      pub has_still : HasAllBytes mid.core.state kept → EndsExport cancel root asked new kept after (Ok tt) → HasAllBytes new.core.state after
      has_still has ends = has_ended cancel root 4 asked new kept after (ended ends) (has_once mid asked kept rank request Frozen refused has)

      pub thawed : HasAllBytes mid.core.state kept → (refusal reason : Refusal) → EndsExport cancel root asked new kept after (Err refusal) → IsToldOf refusal reason → reason ≡ Frozen → CantSend cancel new.core.state
      thawed has refusal reason ends (inl (same, inl memory)) is = let clash : NoMemory ≡ Frozen = sym memory ∙ (sym same ∙ is) in absurd cc
      thawed has refusal reason ends (inl (same, inr places)) is = let clash : NothingToEvict ≡ Frozen = sym places ∙ (sym same ∙ is) in absurd cc
      thawed has refusal reason ends (inr (same, memory, places)) is = cant_send cancel root 4 refusal asked new kept after (stood refusal ends) (has_once mid asked kept rank request Frozen refused has) memory places

      pub taken_on : EndsExport cancel root asked new kept after (Ok tt) → TakesOn cancel root 4 None asked new
      taken_on ends = (ended ends).taken

      pub taken_still : (refusal : Refusal) → EndsExport cancel root asked new kept after (Err refusal) → TakesOn cancel root 4 (Some refusal) asked new
      taken_still refusal ends = (stood refusal ends).taken

      -- it stands still
      pub stopped : (refusal reason : Refusal) → EndsExport cancel root asked new kept after (Err refusal) → IsToldOf refusal reason → AsksThrough cancel rank request old new before after (Err reason)
      stopped refusal reason ends told = record {
        roots = gone.roots;
        few = (let so_far = gone.left in omega (arith, so_far));
        mid = mid;
        kept = kept;
        through = gone.through;
        concluded = inr (inl (root, refusal, record { asked = asked; refused = refused; same_opening = same; ends = stood refusal ends }, told));
      }

  -- what came of it
  module _ (old mid new : BookState) (before kept : SentBytes) (gone : HasGone old mid before kept) where
    concludes : (result : Result Receipt Refusal) → Concludes cancel rank request mid new kept kept result → AsksThrough cancel rank request old new before kept result
    concludes result ends = record {
      roots = gone.roots;
      few = (let so_far = gone.left in omega (arith, so_far));
      mid = mid;
      kept = kept;
      through = gone.through;
      concluded = ends;
    }

    -- the copy was asked, and got another answer than that something froze
    pub copy_told : (result : Result Receipt Refusal) → result ≢ Err Frozen → AsksCopy mid new rank request result → AsksThrough cancel rank request old new before kept result
    copy_told (Ok receipt) other (inl once) = concludes (Ok receipt) (once, refl)
    copy_told (Ok receipt) other (inr (is, same)) = let clash : ◌≡◌ {A = Result Receipt Refusal} (Ok receipt) (Err NoMemory) = is in absurd cc
    copy_told (Err reason) other (inl once) = concludes (Err reason) (inl (once, (λ is. other (ap (λ (r : Refusal). Err r) is)), refl))
    copy_told (Err reason) other (inr (is, same)) = concludes (Err reason) (inr (inr (named is, same, refl)))
      where
        named : ◌≡◌ {A = Result Receipt Refusal} (Err reason) (Err NoMemory) → reason ≡ NoMemory
        named clash = cc

    pub copy_replied : (receipt : Receipt) → AsksCopy mid new rank request (Ok receipt) → AsksThrough cancel rank request old new before kept (Ok receipt)
    copy_replied receipt asked = copy_told (Ok receipt) (λ is. let clash : ◌≡◌ {A = Result Receipt Refusal} (Ok receipt) (Err Frozen) = is in absurd cc) asked

    pub copy_refused : (reason other : Refusal) → AsksCopy mid new rank request (Err reason) → (other ≡ reason) × (reason ≢ Frozen) → AsksThrough cancel rank request old new before kept (Err other)
    copy_refused reason other asked (same, thawed_so) = subst (λ (r : Refusal). AsksThrough cancel rank request old new before kept (Err r)) (sym same) (copy_told (Err reason) (λ is. thawed_so (named is)) asked)
      where
        named : ◌≡◌ {A = Result Receipt Refusal} (Err reason) (Err Frozen) → reason ≡ Frozen
        named clash = cc

    -- nothing is frozen any more
    pub asked_last : (result : Result Receipt Refusal) → NoneFreezing mid.core.state.exports → AsksOnce mid.core new.core mid.history new.history rank request result → AsksThrough cancel rank request old new before kept result
    asked_last (Ok receipt) none once = concludes (Ok receipt) (once, refl)
    asked_last (Err reason) none once = concludes (Err reason) (inl (once, never_frozen_once mid.core new.core mid.history new.history rank request reason none once, refl))

-- ---- what stays while exports are ended

module _ (cancel : Bool) (root : Leaf) (most : ℕ) (refused : Option Refusal) (old new : BookState) (taken : TakesOn cancel root most refused old new) where
  pub none_taken : NoneWaits old.core.state.inboxes → NoneWaits new.core.state.inboxes
  none_taken none = subst (λ (s : State). NoneWaits s.inboxes) (sym taken.left) none

  pub limit_taken : limit_of new ≡ limit_of old
  limit_taken = limit_through old new taken.events taken.results taken.ran

-- one thread, of a book with the same history
pub thread_on : (old mid new : BookState) (request : Request) (result : Result Receipt Refusal) → mid.history ≡ old.history → mid.opening ≡ old.opening → limit_of mid ≡ limit_of old
    → IsOneThread mid.core.state.tree.limit mid.opening mid.history new.history (request ∷ []) (receipt_in result) → IsOneThread old.core.state.tree.limit old.opening old.history new.history (request ∷ []) (receipt_in result)
thread_on old mid new request result history opening limit one =
    subst (λ (h : List Entry). IsOneThread old.core.state.tree.limit old.opening h new.history (request ∷ []) (receipt_in result)) history
    (subst (λ (o : Opening). IsOneThread old.core.state.tree.limit o mid.history new.history (request ∷ []) (receipt_in result)) opening
    (subst (λ (n : ℕ). IsOneThread n mid.opening mid.history new.history (request ∷ []) (receipt_in result)) limit one))

pub order_on : (old mid new : ℕ) (result : Result Receipt Refusal) → mid ≡ old → InOrder mid (receipt_in result) new → InOrder old (receipt_in result) new
order_on old mid new result same order = subst (λ (n : ℕ). InOrder n (receipt_in result) new) same order

-- a refusal that isn't told of a frozen export
pub last_not : (old new : BookState) (rank : Rank) (request : Request) (result : Result Receipt Refusal) → NoneFreezing old.core.state.exports → AsksOnce old.core new.core old.history new.history rank request result → result ≢ Err Frozen
last_not old new rank request (Ok receipt) none once clash = cc
last_not old new rank request (Err reason) none once clash = never_frozen_once old.core new.core old.history new.history rank request reason none once (named clash)
  where
    named : ◌≡◌ {A = Result Receipt Refusal} (Err reason) (Err Frozen) → reason ≡ Frozen
    named same = cc

pub frozen_of : (reason : Refusal) → ◌≡◌ {A = Result Receipt Refusal} (Err reason) (Err Frozen) → reason ≡ Frozen
frozen_of reason same = cc

-- the copy was asked, and something is frozen
pub refused_so : (old new : BookState) (rank : Rank) (request : Request) (reason : Refusal) → reason ≡ Frozen → AsksCopy old new rank request (Err reason) → AsksOnce old.core new.core old.history new.history rank request (Err Frozen)
refused_so old new rank request reason is asked =
    copy_asked old new rank request Frozen (λ memory. let clash : Frozen ≡ NoMemory = memory in cc) (subst (λ (r : Refusal). AsksCopy old new rank request (Err r)) is asked)
