-- What was found and why a request isn't made ready, said of the tree before its checks or after them.
use Rattle.cluster_core.proofs.Common.{Change, Checked, Checks, Dirfrag, Err, Ino, IsAsked, IsAtHolder, IsChangeOf, IsChecked, KeepsRanked, LacksNumber, NoMemory, None, Op, Option, Outcome, Ranked, Refusal, Request, Some, State, WhyUnprepared, ap, because, cluster_of, faults_in, held_roots, inl, inr, keeps_itself, keeps_refused, refl, shown, shown_tree, step, subst, sym, table, where_refused, ℕ, ◌∙◌, ◌≡◌, ◌⊎◌}
use Rattle.dentry_cache.specs.Reads.Reads.{stays}
use Rattle.sessions.specs.Rooms.{HeldSessions}
use Rattle.cluster_core.specs.declared.parts.Asked.{Asked}
use Rattle.cluster_core.specs.declared.parts.Given.{Given}
use Rattle.cluster_core.specs.declared.parts.Parts.{Parts}
use Rattle.mdcache.specs.Core.{state_of as tree_state}
use Rattle.ranked_tree.specs.Changing.{ChangesHeld, FollowsChange}
use Rattle.ranked_tree.specs.Ranked.{MayRefuse}

-- why a change isn't made: a number lacks, or memory, or as the tree refuses it
abbrev pub WhyUnmade : (MayRefuse : Refusal → Type 0) → Outcome → Option Ino → Refusal → Type 0
WhyUnmade MayRefuse outcome offered reason = LacksNumber outcome offered reason ⊎ ((reason ≡ NoMemory) ⊎ MayRefuse reason)

-- so leaves for the operation were read at most
pub record RefusesChange (old new : Ranked) (op : Op) (outcome : Outcome) (offered : Option Ino) (reason : Refusal) : Type 0 where
  pub kept : KeepsRanked old new op (Some reason)
  pub because : WhyUnmade (MayRefuse old new op) outcome offered reason

-- nothing was prepared: nothing was read, and a number lacks, or memory
pub unprepared : (old : Ranked) (op : Op) (change : Change) (n : ℕ) (outcome : Outcome) (offered : Option Ino) (Holds : Dirfrag → Type 0) (reason : Refusal) → IsChecked (shown_tree (tree_state old.tree)) old.tree.covers Holds op n outcome change → WhyUnprepared change offered reason
    → RefusesChange old old op outcome offered reason
unprepared old op change n outcome offered Holds reason checked why = record { kept = go why; because = told why }
  where
    itself : faults_in reason ≡ 0 → KeepsRanked old old op (Some reason)
    itself none = record { tree = keeps_refused old.tree old.tree reason none (keeps_itself old.tree); roots = refl; exports = refl; reads = (None, λ none. refl, stays) }

    go : WhyUnprepared change offered reason → KeepsRanked old old op (Some reason)
    go (inl memory) = itself (ap faults_in memory)
    go (inr lacks) = itself (ap faults_in lacks.0)

    told : WhyUnprepared change offered reason → LacksNumber outcome offered reason ⊎ ((reason ≡ NoMemory) ⊎ MayRefuse old old op reason)
    told (inl memory) = inr (inl memory)
    told (inr lacks) = inl (record { named = lacks.0; absent = lacks.1; taken = checked.number ∙ lacks.2 })

-- it wasn't made
pub unmade : (old new : Ranked) (op : Op) (change : Change) → IsChangeOf op change → (reason : Refusal) (outcome : Outcome) (offered : Option Ino) → ChangesHeld (held_roots old) change old.tree new.tree (Err reason) → FollowsChange change (tree_state old.tree) old.subtrees new.subtrees (Err reason) → new.exports ≡ old.exports
    → RefusesChange old new op outcome offered reason
unmade old new op change one reason outcome offered changed followed stand = record {
  kept = (where_refused old new op change one (Err reason) changed followed stand).follows;
  because = inr (inr (because old new op change one (Err reason) changed));
}

-- reads for an operation leave the state of the cluster as it was, and so does room that is made
pub kept_state : {S : Type 0} → (parts : Parts S) (tree : Ranked) (given : Given) (op : Op) (told : Option Refusal) → KeepsRanked parts.tree tree op told → given.numbers.items ≡ parts.given.numbers.items → table given.sessions ≡ table parts.given.sessions
    → (cluster_of (record parts { tree = tree; given = given })).state ≡ (cluster_of parts).state
kept_state parts tree given op told kept numbers sessions = λ i. record (cluster_of parts).state {
  tree = kept.tree.state i;
  roots = kept.roots i;
  exports = kept.exports i;
  numbers = numbers i;
  sessions = sessions i;
}

pub only_read : {S : Type 0} → (parts : Parts S) (tree : Ranked) (op : Op) (told : Option Refusal) → KeepsRanked parts.tree tree op told → (cluster_of (record parts { tree = tree })).state ≡ (cluster_of parts).state
only_read parts tree op told kept = kept_state parts tree parts.given op told kept refl refl

-- what was found of a request at its master is still so after reads
pub asked_later : (old mid : State) (sessions : HeldSessions) (asked : Asked) (request : Request) → mid ≡ old → IsAsked old sessions asked request → IsAsked mid sessions asked request
asked_later old mid sessions asked request same h = subst (λ (s : State). IsAsked s sessions asked request) (sym same) h

-- the checks find the same after reads
pub checked_later : (old mid : State) (op : Op) (limit later n m : ℕ) (found : Checked) → mid ≡ old → limit ≡ later → n ≡ m → Checks (shown old) old.tree.covers (IsAtHolder old) op n (step limit (shown old) op n) found
    → Checks (shown mid) mid.tree.covers (IsAtHolder mid) op m (step later (shown mid) op m) found
checked_later old mid op limit later n m found same limits number checks =
    subst (λ (s : State). Checks (shown s) s.tree.covers (IsAtHolder s) op m (step later (shown s) op m) found) (sym same)
    (subst (λ k. Checks (shown old) old.tree.covers (IsAtHolder old) op k (step later (shown old) op k) found) number
    (subst (λ l. Checks (shown old) old.tree.covers (IsAtHolder old) op n (step l (shown old) op n) found) limits checks))
