-- What serving and granting make of the caches, from what their parts did.
use Rattle.cluster_core.proofs.Common.{Answer, AppliesRequest, Asks, AsksFor, CacheMap, Came, Change, ChangesOp, Concerns, Deferred, Entry, Err, Forwarded, InboxFull, Inboxes, Ino, IsChangeOf, IsChangedHeld, IsGone, IsOfFragments, LacksPlacesAsked, List, NamesDir, NoMemory, None, NoneEnds, Nothing, Ok, Op, Option, Outcome, Pin, Rank, Ranked, ReadsOp, Refusal, Replies, Reply, Request, Result, Roots, Sent, Some, State, Table, Trimmed, UsesApplied, UsesFront, UsesRequest, ap, came_weaker, change_concerns, false, held_roots, inl, inr, reads_then, reads_weaker, refl, refused_so, shape, shown_tree, slice_get, subst, sym, true, [], ℕ, ◌∷◌, ◌≡◌, ◌⊎◌, ⊎_elim, ◌∙◌}
use Rattle.mds_types.specs.declared.replies.Reply.{Reply as Replied}
use Rattle.dentry_cache.specs.Cache.{Leaf}
use Rattle.dentry_cache.specs.Came.Came.{stays as nothing_came}
use Rattle.dentry_cache.specs.Reads.{Reads}
use Rattle.dentry_cache.specs.Reads.Reads.{stays as nothing_read}
use Rattle.mdcache.specs.Core.{Core as TreeCore, state_of as tree_state}
use Rattle.mdcache.specs.State.{State as TreeState}
use Rattle.namespace_ops.specs.Changes.{reply_of}
use Rattle.ranked_tree.specs.Held.{ComesFor, ComesWith}
use Rattle.ranked_tree.specs.Ranked.{MayRefuse}
use Rattle.ranked_tree.proofs.ReadsForLaws.{comes_for, number_put}
use Rattle.cluster_core.specs.Uses.{UsesWaiting, number_answered, number_told}
use Rattle.cluster_core.specs.declared.events.Answer.TheVariants.{Job}
use Rattle.cluster_core.proofs.FrontLaws.{at_front}
use Rattle.cluster_core.proofs.MadeReady.{RefusesChange, WhyUnmade}

module _ (tree new : TreeState) (roots : Roots) where
  -- nothing was read
  same_request : (op : Op) (caches : CacheMap) (result : Result Answer Refusal) → UsesRequest tree new roots op caches caches result
  same_request op caches (Ok (Reply client tid place true reply)) = (caches, nothing_read, nothing_came)
  same_request op caches (Ok (Reply client tid place false reply)) = refl
  same_request op caches (Ok Deferred) = (None, λ none. refl, nothing_read)
  same_request op caches (Ok (Forwarded master)) = refl
  same_request op caches (Ok Nothing) = refl
  same_request op caches (Ok (Job job)) = refl
  same_request op caches (Ok (Sent bytes)) = refl
  same_request op caches (Err reason) = ((None, λ none. refl, nothing_read), λ late. refl)

  pub same_caches : (caches : CacheMap) (result : Result Answer Refusal) (waiting : List Request) → UsesFront tree new roots caches caches result waiting
  same_caches caches result [] = refl
  same_caches caches result (request ∷ rest) = same_request request.op caches result

  -- what holds of the request at the front
  pub front_uses : (before after : CacheMap) (result : Result Answer Refusal) (front : Request) (waiting : List Request) → Some front ≡ slice_get waiting 0 → UsesRequest tree new roots front.op before after result → UsesFront tree new roots before after result waiting
  front_uses before after result front waiting is uses = at_front (λ (w : List Request). UsesFront tree new roots before after result w) front waiting is (λ rest. uses)

  -- a request that was applied
  pub applied_uses : (op : Op) (before after : CacheMap) (answer : Answer) (client tid place : ℕ) (reply : Replied) → answer ≡ Reply client tid place true reply → ChangesOp tree new roots op (number_answered answer) before after → UsesRequest tree new roots op before after (Ok answer)
  applied_uses op before after answer client tid place reply is changes = subst (λ (a : Answer). UsesRequest tree new roots op before after (Ok a)) (sym is)
      (subst (λ (n : Option Ino). ChangesOp tree new roots op n before after) (ap number_answered is) changes)

  -- a request that wasn't made ready
  pub unready_uses : (op : Op) (before after : CacheMap) (reason : Refusal) → IsOfFragments reason → ReadsOp tree roots op (Some reason) before after → UsesRequest tree new roots op before after (Err reason)
  unready_uses op before after reason of reads = (reads, late)
    where
      late : (reason ≡ Trimmed) ⊎ (reason ≡ InboxFull) → after ≡ before
      late (inl is) = absurd (subst IsOfFragments is of)
      late (inr is) = absurd (subst IsOfFragments is of)

  -- reads that make no directory, whatever number is offered
  pub reads_any : (op : Op) (offered : Option Ino) (before after : CacheMap) → ReadsOp tree roots op None before after → Reads (Asks tree roots op offered) NoneEnds tree.objects before after
  reads_any op offered before after reads =
      reads_weaker (Asks tree roots op None) NoneEnds (Asks tree roots op offered) NoneEnds (λ r q. ⊎_elim (λ held. inl held) (λ none. absurd none)) (λ r q none. none) tree.objects before after
      (subst (λ (n : Option Ino). Reads (Asks tree roots op n) NoneEnds tree.objects before after) (reads.1 refl) reads.2)

  -- a request that changes nothing
  pub replied_uses : (op : Op) (before after : CacheMap) (inboxes now : Inboxes) (pins pins_now : List Pin) (known sessions : Table) (place : ℕ) (past past_now : List Entry) (rank : Rank) (said : Replied) (result : Result Answer Refusal) (request : Request) (rest : List Request)
      → Replies inboxes now pins pins_now known sessions place past past_now rank said result request rest → ReadsOp tree roots op None before after → UsesRequest tree new roots op before after result
  replied_uses op before after inboxes now pins pins_now known sessions place past past_now rank said (Ok answer) request rest h reads =
      applied_uses op before after answer request.client request.tid place said h.answered (after, reads_any op (number_answered answer) before after reads, nothing_came)
  replied_uses op before after inboxes now pins pins_now known sessions place past past_now rank said (Err reason) request rest h reads = unready_uses op before after reason (subst IsOfFragments (sym h.named) tt) (reads.0, λ none. reads.1 refl, reads.2)

-- what a grant read that is refused behind its reads
pub waits_told : (tree : TreeState) (roots : Roots) (before after : CacheMap) (told : Option Refusal) (waiting : Option Request) → UsesWaiting tree roots before after None waiting → UsesWaiting tree roots before after told waiting
waits_told tree roots before after told None uses = uses
waits_told tree roots before after told (Some request) uses = (uses.0, λ none. uses.1 refl, uses.2)

-- a request isn't made ready for a reason of the tree
pub unmade_of : (MayRefuse : Refusal → Type 0) → ((reason : Refusal) → MayRefuse reason → IsOfFragments reason) → (outcome : Outcome) (offered : Option Ino) (reason : Refusal) → WhyUnmade MayRefuse outcome offered reason → IsOfFragments reason
unmade_of MayRefuse so outcome offered reason (inl lacks) = subst IsOfFragments (sym lacks.named) tt
unmade_of MayRefuse so outcome offered reason (inr (inl memory)) = subst IsOfFragments (sym memory) tt
unmade_of MayRefuse so outcome offered reason (inr (inr may)) = so reason may

pub early_of : (old new : Ranked) (op : Op) (reason : Refusal) → (reason ≡ NoMemory) ⊎ MayRefuse old new op reason → IsOfFragments reason
early_of old new op reason (inl memory) = subst IsOfFragments (sym memory) tt
early_of old new op reason (inr may) = refused_so (LacksPlacesAsked 2 old.tree (held_roots old) (Concerns op)) old.tree new.tree op reason may

-- so it uses what was read at most
pub refused_uses : (old new : Ranked) (op : Op) (outcome : Outcome) (offered : Option Ino) (reason : Refusal) → RefusesChange old new op outcome offered reason
    → UsesApplied (tree_state old.tree) (tree_state new.tree) (held_roots old) op old.tree.caches new.tree.caches (Err reason)
refused_uses old new op outcome offered reason refused = (refused.kept.reads, unmade_of (MayRefuse old new op) (λ r may. early_of old new op r (inr may)) outcome offered reason refused.because)

-- a change of an operation uses what that asks for
module _ (old : TreeCore) (roots : Roots) (op : Op) (change : Change) where
  abbrev Named : ℕ → Leaf → Type 0
  Named = AsksFor (tree_state old) roots (NamesDir change) (ComesWith (tree_state old) roots change)

  abbrev Asked : ℕ → Leaf → Type 0
  Asked = Asks (tree_state old) roots op (number_told (reply_of change))

  asked_by : IsChangeOf op change → (r : ℕ) (q : Leaf) → Named r q → Asked r q
  asked_by one r q (inl held) = inl (change_concerns (shape op) change one q.0.0 held.0, held.1, held.2)
  asked_by one r q (inr comes) =
      inr (subst (λ (n : Option Ino). ComesFor (tree_state old) roots op n r q)
      (ap (λ (c : Change). number_put c.puts) comes.2 ∙ sym (ap (λ (c : Change). number_told (reply_of c)) comes.2))
      (comes_for (tree_state old) roots op change one r q comes))

pub changed_uses : (old new : TreeCore) (roots : Roots) (op : Op) (change : Change) → IsChangeOf op change → IsChangedHeld roots change old new
    → ChangesOp (tree_state old) (tree_state new) roots op (number_told (reply_of change)) old.caches new.caches
changed_uses old new roots op change one is =
    let asks = asked_by old roots op change one in (
      is.between,
      reads_weaker (Named old roots op change) NoneEnds (Asked old roots op change) NoneEnds asks (λ r q none. none) old.objects old.caches is.between is.read,
      came_weaker (Named old roots op change) (IsGone (shown_tree (tree_state new))) (Asked old roots op change) (IsGone (shown_tree (tree_state new))) asks (λ r q gone. gone) is.between new.caches is.came,
    )

-- what applying a request makes of the caches after reads for it, said of what was before them
module _ (before mid new : TreeState) (roots between : Roots) (op : Op) (caches middle after : CacheMap) (same : mid ≡ before) (rooted : between ≡ roots) (reads : ReadsOp before roots op None caches middle) where
  reads_on : (offered : Option Ino) (next : CacheMap) → Reads (Asks mid between op offered) NoneEnds mid.objects middle next → Reads (Asks before roots op offered) NoneEnds before.objects caches next
  reads_on offered next more =
      reads_then (Asks before roots op offered) NoneEnds before.objects caches middle next (reads_any before new roots op offered caches middle reads)
      (subst (λ (s : TreeState). Reads (Asks s roots op offered) NoneEnds s.objects middle next) same (subst (λ (r : Roots). Reads (Asks mid r op offered) NoneEnds mid.objects middle next) rooted more))

  came_on : (offered : Option Ino) (next : CacheMap) → Came (Asks mid between op offered) (IsGone (shown_tree new)) next after → Came (Asks before roots op offered) (IsGone (shown_tree new)) next after
  came_on offered next came =
      subst (λ (s : TreeState). Came (Asks s roots op offered) (IsGone (shown_tree new)) next after) same
      (subst (λ (r : Roots). Came (Asks mid r op offered) (IsGone (shown_tree new)) next after) rooted came)

  pub applied_later : (old now : State) (past past_now : List Entry) (MayRefuse : Op → Refusal → Type 0) (rank : Rank) (result : Result Answer Refusal) (request : Request) (rest : List Request)
      → AppliesRequest old now past past_now MayRefuse rank result request rest → UsesApplied mid new between op middle after result → UsesRequest before new roots op caches after result
  applied_later old now past past_now MayRefuse rank (Ok answer) request rest h uses =
      applied_uses before new roots op caches after answer _ _ _ _ h.answered
      (uses.0, reads_on (number_answered answer) uses.0 uses.1, came_on (number_answered answer) uses.0 uses.2)
  applied_later old now past past_now MayRefuse rank (Err reason) request rest h uses = unready_uses before new roots op caches after reason uses.1
      (uses.0.0, uses.0.1, reads_on uses.0.0 after uses.0.2)
