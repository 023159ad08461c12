-- How each event uses the caches.
use Rattle.std.specs.Prelude.{◌≡◌, ◌⊎◌, ℕ, true, false, nat_lt, MatchBool, List, [], ◌∷◌, length, Option, Some, None, Result, Ok, Err, OnOk, OnErr, IfErr}
use Rattle.std.specs.FinMap as map
use Rattle.std.specs.Result.{result_err}
use Rattle.mds_types.specs.declared.ids.Ino.{Ino}
use Rattle.mds_types.specs.declared.ids.Rank.{Rank}
use Rattle.mds_types.specs.declared.operations.Op.{Op}
use Rattle.mds_types.specs.declared.requests.Request.{Request}
use Rattle.mds_types.specs.declared.refusals.Refusal.{Refusal}
use Rattle.mds_types.specs.declared.refusals.Refusal.TheVariants.{InboxFull, Trimmed}
use Rattle.mds_types.specs.declared.replies.Reply.{Reply as Replied}
use Rattle.mds_types.specs.declared.replies.Reply.TheVariants.{Done, Entries, Entry, Errno, Target}
use Rattle.dentry_cache.specs.Cache.{Leaf}
use Rattle.dentry_cache.specs.CacheMap.{CacheMap, evicted}
use Rattle.dentry_cache.specs.Came.{Came, NoneEnds}
use Rattle.dentry_cache.specs.Reads.{Reads}
use Rattle.export_steps.specs.declared.exports.StandingExport.{StandingExport}
use Rattle.inboxes.specs.Inboxes.{first_waiting, waiting_at}
use Rattle.mdcache.specs.Commits.{leaf_of_job}
use Rattle.namespace_ops.specs.Changes.{Concerns}
use Rattle.namespace_ops.specs.Reasons.{IsOfFragments}
use Rattle.subtree_map.specs.Authority.{Roots}
use Rattle.mdcache.specs.Shown.{shown_tree}
use Rattle.mdcache.specs.State.{State as TreeState}
use Rattle.cluster_core.specs.declared.events.Answer.{Answer}
use Rattle.cluster_core.specs.declared.events.Answer.TheVariants.{Deferred, Forwarded, Job, Nothing, Reply, Sent}
use Rattle.cluster_core.specs.declared.events.Event.{Event}
use Rattle.cluster_core.specs.declared.events.Event.TheVariants.{Serve, Grant, Split, Merge, CommitBegin, CommitEnd, Evict, Import}
use Rattle.cluster_core.specs.Administers.{HoldsInside}
use Rattle.cluster_core.specs.Master.{IsAuthority, IsHolder}
use Rattle.cluster_core.specs.State.{Core, held_roots}
use Rattle.ranked_tree.specs.Held.{AsksFor, CameAt, ComesFor, IsFamilyOf, IsGone, IsMergedHere, UsesAt, WithOffer}
use Rattle.ranked_tree.specs.Importing.{HandsRegion, LeavesCaches}
use Rattle.ranked_tree.specs.Sending.{IsInRegionOf}

-- the leaves that an operation asks for at a rank: live leaves of directories that it concerns, at the rank that holds
-- them; and the first leaf of the directory that it makes, with the number that is offered, at the rank that holds the
-- leaf of its name
abbrev pub Asks : TreeState → Roots → Op → (offered : Option Ino) → ℕ → Leaf → Type 0
Asks tree roots op offered = AsksFor tree roots (Concerns op) (ComesFor tree roots op offered)

-- the caches changed at most by reading such leaves, each of which moved to the front of its rank's order of use; if
-- nothing is refused, no directory is made
abbrev pub ReadsOp : TreeState → Roots → Op → (told : Option Refusal) → (before after : CacheMap) → Type 0
ReadsOp tree roots op told before after =
    WithOffer told (λ (offered : Option Ino). Reads (Asks tree roots op offered) NoneEnds tree.objects before after)

-- the caches changed at most by reading such leaves, then using and changing them, and by dropping the leaves of
-- directories that no longer exist
abbrev pub ChangesOp : (tree new : TreeState) → Roots → Op → (offered : Option Ino) → (before after : CacheMap) → Type 0
ChangesOp tree new roots op offered before after =
    (mid : CacheMap) × Reads (Asks tree roots op offered) NoneEnds tree.objects before mid
    × Came (Asks tree roots op offered) (IsGone (shown_tree new)) mid after

-- the number of the inode in a reply: of a reply to `mkdir` it is that of the directory that was made
abbrev pub number_told : Replied → Option Ino
number_told (Entry inode) = Some inode.ino
number_told (Entries list more) = None
number_told (Target target) = None
number_told Done = None
number_told (Errno number) = None

abbrev pub number_answered : Answer → Option Ino
number_answered (Reply client tid place first reply) = number_told reply
number_answered Deferred = None
number_answered (Forwarded master) = None
number_answered Nothing = None
number_answered (Job job) = None
number_answered (Sent bytes) = None

-- the caches after serving a request. If it is applied, the leaves that its operation asks for may be read and changed.
-- If it lacks a grant or is refused, they may be read. If it is answered again, forwarded or too old, nothing is read
abbrev pub UsesRequest : (tree new : TreeState) → Roots → Op → (before after : CacheMap) → Result Answer Refusal
    → Type 0
UsesRequest tree new roots op before after (Ok (Reply client tid place true reply)) =
    ChangesOp tree new roots op (number_told reply) before after
UsesRequest tree new roots op before after (Ok (Reply client tid place false reply)) = after ≡ before
UsesRequest tree new roots op before after (Ok Deferred) = ReadsOp tree roots op None before after
UsesRequest tree new roots op before after (Ok (Forwarded master)) = after ≡ before
UsesRequest tree new roots op before after (Ok Nothing) = after ≡ before
UsesRequest tree new roots op before after (Ok (Job job)) = after ≡ before
UsesRequest tree new roots op before after (Ok (Sent bytes)) = after ≡ before
UsesRequest tree new roots op before after (Err reason) =
    ReadsOp tree roots op (Some reason) before after × ((reason ≡ Trimmed) ⊎ (reason ≡ InboxFull) → after ≡ before)

-- the caches after applying a request that is new and at its master
abbrev pub UsesApplied : (tree new : TreeState) → Roots → Op → (before after : CacheMap) → Result Answer Refusal
    → Type 0
UsesApplied tree new roots op before after (Ok answer) = ChangesOp tree new roots op (number_answered answer) before after
UsesApplied tree new roots op before after (Err reason) =
    ReadsOp tree roots op (Some reason) before after × IsOfFragments reason

-- the caches after serving the request at the front; if none waits, they are the same
abbrev pub UsesFront : (tree new : TreeState) → Roots → (before after : CacheMap) → Result Answer Refusal → List Request
    → Type 0
UsesFront tree new roots before after result [] = after ≡ before
UsesFront tree new roots before after result (request ∷ rest) =
    UsesRequest tree new roots request.op before after result

-- a grant may read the leaves that the operation of the first waiting copy asks for
abbrev pub UsesWaiting : TreeState → Roots → (before after : CacheMap) → (told : Option Refusal) → Option Request
    → Type 0
UsesWaiting tree roots before after told None = after ≡ before
UsesWaiting tree roots before after told (Some request) = ReadsOp tree roots request.op told before after

-- no leaf was asked for
abbrev pub AsksNone : (old new : Core) → Type 0
AsksNone old new = new.caches ≡ old.caches

-- at most this leaf was used, at the rank that holds it
abbrev pub UsesLeaf : (old new : Core) → Leaf → Type 0
UsesLeaf old new leaf = UsesAt (IsHolder old.state leaf) leaf old.caches new.caches

-- an event at a rank that doesn't exist asks for no leaf
abbrev pub UsesThere : (old new : Core) → Rank → (Uses : Type 0) → Type 0
UsesThere old new rank Uses = MatchBool (nat_lt rank.0 (length old.state.inboxes)) Uses (AsksNone old new)

-- how an event uses the caches, beside its effect on the state (`Does`). A Serve or a Grant uses what its request asks
-- for; the begin and the end of a commit use at most its leaf. A split uses and ends at most the leaf and its children,
-- at its authority; a merge at most the leaves properly inside and the one that they become, at the authority of all.
-- An eviction removes the least recently used of the clean fragments that its rank caches. An import hands the region
-- to its importer; a refused one removes at most clean fragments of the importer. All other events ask for no leaf
abbrev pub UsesStep : (old new : Core) → Result Answer Refusal → Event → Type 0
UsesStep old new result (Serve rank) =
    UsesThere old new rank (UsesFront old.state.tree new.state.tree (held_roots old.state) old.caches new.caches result
    (waiting_at old.state.inboxes rank))
UsesStep old new result (Grant rank client tid) =
    UsesThere old new rank (UsesWaiting old.state.tree (held_roots old.state) old.caches new.caches
    (result_err result) (first_waiting client tid old.state.inboxes))
UsesStep old new result (Split rank dir f nb) =
    UsesThere old new rank (CameAt (IsAuthority old.state (dir, f)) (IsFamilyOf dir f nb) old.caches new.caches)
UsesStep old new result (Merge rank dir f) =
    UsesThere old new rank (CameAt (λ (rank : Rank). HoldsInside old.state rank dir f)
    (IsMergedHere old.state.tree.covers dir f) old.caches new.caches)
UsesStep old new result (CommitBegin rank dir f) = UsesThere old new rank (UsesLeaf old new (dir, f))
UsesStep old new result (CommitEnd encoded) = UsesLeaf old new (leaf_of_job encoded.job)
UsesStep old new result (Evict rank) =
    UsesThere old new rank (OnOk result (evicted old.caches rank.0 None ≡ Some new.caches)
    × OnErr result (AsksNone old new))
UsesStep old new result (Import dir f bytes) =
    OnOk result ((export : StandingExport) × (map.get old.state.exports (dir, f) ≡ Some export)
    × HandsRegion (IsInRegionOf old.state.tree old.state.roots (dir, f)) export old.caches new.caches)
    × IfErr result (LeavesCaches old.state.exports (dir, f) old.caches new.caches)
UsesStep old new result other = AsksNone old new
