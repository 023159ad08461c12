-- Commits of whole fragments.
use Rattle.mdcache.proofs.Common.{BeginsUnsaved, BegunAreAtHand, BegunLeaveAtHand, EndedAreClean, IsAtHand, Job, Mark, Marks, None, Option, OthersStayAtHand, Some, State, Stored, Unsaved, ap, cond, eq-eqb, get-empty, get-unsettled, is_settled, key_cmp, len-empty, next_version, not, one_map, refl, same_Some, stored_with, sym, unsettled, with_unsaved, ℕ, ◌∙◌, ◌≡◌}
use Rattle.std.specs.FinMap as map
use Rattle.mds_types.proofs.LeafLaws.{get_beside, get_left, get_put}
use Rattle.mdcache.specs.Commits.{leaf_of_job, left_of}

nothing_left : (version generation : ℕ) (dirty : Marks) → stored_with version generation (unsettled dirty dirty) ≡ None
nothing_left version generation dirty =
    ap (stored_with version generation) (one_map (unsettled dirty dirty) map.empty (λ q. get-unsettled dirty dirty q
    ∙ elim (map.get dirty q) as (λ m. cond (not (is_settled m m)) m None ≡ None) [ None ↦ refl | Some m ↦ ap (λ b. cond (not b) (Some m) None) (eq-eqb m.version m.version refl) ] ∙ sym (get-empty _ q)))
    ∙ ap (λ b. cond {A = Option Unsaved} b None (Some (record { base = Stored version; generation = generation; dirty = map.empty }))) (eq-eqb (map.len (map.empty {X = Mark} {R = key_cmp})) 0 (len-empty key_cmp Mark))

pub begun_are_at_hand : BegunAreAtHand
begun_are_at_hand old new leaf job begun = elim (map.get old.unsaved leaf) as (λ o. map.get old.unsaved leaf ≡ o → BeginsUnsaved old new leaf o (Some job) → IsAtHand new job × (leaf_of_job job ≡ leaf)) [
  | None ↦ λ is none. let clash : Some job ≡ None = none.0 in absurd cc
  | Some u ↦ λ is b. (
    record {
      stands = ap (λ (t : State). map.get t.jobs (leaf_of_job job)) b.2 ∙ get_put old.jobs (leaf_of_job job) job;
      unsaved = u;
      beside = ap (λ (t : State). map.get t.unsaved (leaf_of_job job)) b.2 ∙ ap (λ (j : Job). map.get old.unsaved (leaf_of_job j)) b.0 ∙ is;
      names = ap (λ (j : Job). j.snapshot.names) b.0;
    },
    ap leaf_of_job b.0,
  )
] refl begun.2

-- a job is at hand still where it stands as before, and its fragment is as before
still_at_hand : (old new : State) (job : Job) → map.get new.jobs (leaf_of_job job) ≡ map.get old.jobs (leaf_of_job job) → map.get new.unsaved (leaf_of_job job) ≡ map.get old.unsaved (leaf_of_job job) → IsAtHand old job → IsAtHand new job
still_at_hand old new job stands beside hand = record { stands = stands ∙ hand.stands; unsaved = hand.unsaved; beside = beside ∙ hand.beside; names = hand.names }

pub begun_leave_at_hand : BegunLeaveAtHand
begun_leave_at_hand old new leaf job other begun apart hand = elim (map.get old.unsaved leaf) as (λ o. BeginsUnsaved old new leaf o (Some job) → IsAtHand new other) [
  | None ↦ λ none. let clash : Some job ≡ None = none.0 in absurd cc
  | Some u ↦ λ b. still_at_hand old new other (ap (λ (t : State). map.get t.jobs (leaf_of_job other)) b.2 ∙ get_beside old.jobs (leaf_of_job job) job (leaf_of_job other) (λ same. apart (same ∙ ap leaf_of_job b.0)))
      (ap (λ (t : State). map.get t.unsaved (leaf_of_job other)) b.2) hand
] begun.2

pub ended_are_clean : EndedAreClean
ended_are_clean old new job hand ended =
    let same : hand.unsaved ≡ ended.unsaved = same_Some hand.unsaved ended.unsaved (sym hand.beside ∙ ended.beside) in
    let names : job.snapshot.names ≡ ended.unsaved.dirty = hand.names ∙ ap (λ (u : Unsaved). u.dirty) same in
    let none : left_of ended.unsaved job.snapshot ≡ None = ap (λ n. stored_with (next_version job.snapshot.base) ended.unsaved.generation (unsettled ended.unsaved.dirty n)) names ∙ nothing_left (next_version job.snapshot.base) ended.unsaved.generation ended.unsaved.dirty in
    ap (λ (t : State). t.unsaved) ended.left ∙ ap (with_unsaved old.unsaved (leaf_of_job job)) none

pub others_stay_at_hand : OthersStayAtHand
others_stay_at_hand old new job other ended apart mine hand =
    still_at_hand old new other (ap (λ (t : State). map.get t.jobs (leaf_of_job other)) ended.left ∙ get_left old.jobs (leaf_of_job job) (leaf_of_job other) apart)
    (ap (λ m. map.get m (leaf_of_job other)) (ended_are_clean old new job mine ended) ∙ get_left old.unsaved (leaf_of_job job) (leaf_of_job other) apart) hand
