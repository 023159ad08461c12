-- No call touches the object of a fragment while a job stands for it.
use Rattle.mdcache.proofs.Common.{BeginsUnsaved, Bool, Change, Drops, EndsJobOf, Err, Fragment, Ino, Inode, IsRegrouped, IsSound, Job, Leaf, List, Makes, None, Ok, Option, PurgesName, PutsThen, Refusal, Result, SavesTree, Some, Spot, State, TakesThen, Unsaved, ap, first_name, get_beside, housed, inl, inr, object_of, rules, sym, text_of, without_gone_dir, ℕ, ◌∙◌, ◌≡◌}
use Rattle.std.specs.FinMap as map
use Rattle.mds_types.proofs.LeafLaws.{get_removed, same_or_apart}
use Rattle.objstore.specs.Objects.{written}
use Rattle.inode_table.specs.Dirs.{IsLive}
use Rattle.mdcache.specs.Commits.{leaf_of_job}
use Rattle.mdcache.proofs.ObjectLaws.{purged_right, tree_saved_right}
use Rattle.mdcache.proofs.TextLaws.{one_text}

-- the objects are those that were there
abbrev pub ObjectsStay : (old new : State) → Type 0
ObjectsStay old new = new.objects ≡ old.objects

pub same_state : (old new : State) → new ≡ old → ObjectsStay old new
same_state old new same = ap (λ (s : State). s.objects) same

-- ---- a change of the tree touches no object

without_objects : (s : State) (went : Option Ino) → (without_gone_dir s went).objects ≡ s.objects
without_objects s went = search rules

-- whatever entry it takes and puts
altered_objects : (takes : Option Spot) (puts : Option (Spot × Inode)) (comes : Bool) (gone : Option Ino) (old new : State)
    → TakesThen old takes (λ left. PutsThen left puts (λ named. new ≡ without_gone_dir (housed named takes puts comes) gone)) → ObjectsStay old new
altered_objects takes puts comes gone old new is = search (rules, without_objects)

pub made_objects : (change : Change) (old new : State) → Makes change old new → ObjectsStay old new
made_objects change old new makes = ap (λ (s : State). s.objects) makes.2 ∙ altered_objects change.takes change.puts change.comes change.gone old makes.0 makes.1

-- nor do a split and a merge
pub regrouped_objects : (old new : State) (dir : Ino) (gone cover : List Fragment) (count : ℕ) → IsRegrouped old new dir gone cover count → ObjectsStay old new
regrouped_objects old new dir gone cover count did = ap (λ (s : State). s.objects) did.left

-- ---- commits, tree objects and the purge list

module _ (old new : State) where
  pub begun_objects : (unsaved : Option Unsaved) (leaf : Leaf) (job : Option Job) → BeginsUnsaved old new leaf unsaved job → ObjectsStay old new
  begun_objects unsaved leaf job h = search rules

  pub dropped_objects : (number : ℕ) (result : Result (Unit {0}) Refusal) → Drops old new number result → ObjectsStay old new
  dropped_objects number result h = search rules

  -- a job stands for a leaf before and after
  module _ (sound : IsSound old) (leaf : Leaf) (job : Job) (stood : map.get old.jobs leaf ≡ Some job) where
    live : IsLive old.homes old.covers leaf
    live = let standing = sound.standing leaf job stood in (sound.unsaved leaf standing.unsaved standing.beside).live

    -- another job's commit writes another object, and its own ends it
    pub ended_object : (stands : map.get new.jobs leaf ≡ Some job) (before after : ℕ) (other : Job) (result : Result (Unit {0}) Refusal) → EndsJobOf old new before after other result → object_of new.objects leaf.0 leaf.1 ≡ object_of old.objects leaf.0 leaf.1
    unfolding written
    ended_object stands before after other (Err reason) h = ap (λ (s : State). object_of s.objects leaf.0 leaf.1) h.1
    ended_object stands before after other (Ok done) h = ap (λ (s : State). object_of s.objects leaf.0 leaf.1) h.left ∙ elim (same_or_apart leaf (leaf_of_job other)) [
      | inl same ↦
          let clash : None ≡ Some job = sym (get_removed old.jobs (leaf_of_job other)) ∙ ap (map.get (map.remove old.jobs (leaf_of_job other))) (sym same) ∙ sym (ap (λ (s : State). map.get s.jobs leaf) h.left) ∙ stands in
          absurd cc
      | inr apart ↦ get_beside old.objects (text_of (leaf_of_job other)) _ (text_of leaf) (λ same. apart (one_text old.homes old.covers sound.table sound.numbered leaf (leaf_of_job other) live (sound.unsaved (leaf_of_job other) h.unsaved h.beside).live same))
    ]

    pub saved_object : (before after : ℕ) (dir : Ino) (result : Result (Unit {0}) Refusal) → SavesTree old new before after dir result → object_of new.objects leaf.0 leaf.1 ≡ object_of old.objects leaf.0 leaf.1
    saved_object before after dir (Err reason) h = ap (λ (s : State). object_of s.objects leaf.0 leaf.1) h.1
    saved_object before after dir (Ok done) h = ap (λ (s : State). object_of s.objects leaf.0 leaf.1) h.1 ∙ (tree_saved_right old dir sound h.0).objects leaf live

    pub purged_object : (before after : ℕ) (name : Option (List ℕ)) → first_name old.purge ≡ name → (result : Result (Unit {0}) Refusal) → PurgesName old new before after name result → object_of new.objects leaf.0 leaf.1 ≡ object_of old.objects leaf.0 leaf.1
    purged_object before after None is result h = ap (λ (s : State). object_of s.objects leaf.0 leaf.1) h.1
    purged_object before after (Some name) is (Err reason) h = ap (λ (s : State). object_of s.objects leaf.0 leaf.1) h.1
    purged_object before after (Some name) is (Ok done) h = ap (λ (s : State). object_of s.objects leaf.0 leaf.1) h.0 ∙ (purged_right old name sound is).objects leaf live
