-- What holds of a fragment that has neither names nor room for any.
use Rattle.cached_frag.proofs.Common.{AreDirtyNames, Base, Cached, Fresh, Inode, Joins, List, Mark, Marks, Names, None, Option, NamedInode, Stored, [], ap, arith, cond, counts_of, false, get-empty, key_cmp, len-empty, len-entries, marked_as, nil_from_length, not, refl, rows_after, shown_names, shown_as, subst, sym, true, ℕ, ◌∙◌, ◌≡◌, ◌≤◌}
use Rattle.std.specs.Prelude.{IfSome, is_some, ◌==◌}
use Rattle.std.specs.FinMap as map
use Rattle.std.specs.FinMap.{empty_of_len}
use Rattle.dirfrag_codec.specs.EntryRecord.{HasRecord}
use Rattle.dirfrag_codec.proofs.ByteKeys.{one_map}
use Rattle.cached_frag.specs.Cached.{is_clean, is_settled, snapshot_of, unsettled}
use Rattle.cached_frag.specs.Snap.{Snap}
use Rattle.cached_frag.specs.Stores.{nameless}
use Rattle.cached_frag.proofs.CountedLaws.{nothing_counted}
use Rattle.cached_frag.proofs.MarkLaws.{none_dirty}
use Rattle.cached_frag.proofs.SettledLaws.{get-unsettled}
use Rattle.cached_frag.proofs.ShownLaws.{nothing_shown}

no_pairs : {X : Type 0} → [] ≡ map.entries (map.empty {X = X} {R = key_cmp})
no_pairs {X} = sym (nil_from_length _ (sym (len-entries (map.empty {X = X} {R = key_cmp})) ∙ len-empty key_cmp X))

none_in : (base : Base) (generation : ℕ) → shown_names (nameless base generation) ≡ map.empty
none_in Fresh generation = nothing_shown map.empty refl
none_in (Stored version) generation = nothing_shown map.empty refl

module _ (base : Base) (generation : ℕ) (f : Cached) (is : nameless base generation ≡ f) where
  pub nothing : shown_names f ≡ map.empty
  nothing = sym (ap (λ (g : Cached). shown_names g) is) ∙ none_in base generation

  pub no_changes : f.dirty ≡ map.empty
  no_changes = sym (ap (λ (g : Cached). g.dirty) is)

  pub none_found : (name : List ℕ) → None ≡ map.get (shown_names f) name
  none_found name = sym (ap (λ (n : Names). map.get n name) nothing ∙ get-empty key_cmp name)

  pub none_there : (name : List ℕ) → false ≡ is_some (map.get (shown_names f) name)
  none_there name = ap (λ (o : Option Inode). is_some o) (none_found name)

  pub none_recorded : (name : List ℕ) → IfSome (map.get (shown_names f) name) HasRecord
  none_recorded name = subst (λ (o : Option Inode). IfSome o HasRecord) (none_found name) tt

  pub none_counted : record { files = 0; dirs = 0 } ≡ counts_of (shown_names f)
  none_counted = sym (ap counts_of nothing ∙ nothing_counted)

  pub none_listed : 0 ≡ map.len (shown_names f)
  none_listed = sym (ap (λ (n : Names). map.len n) nothing ∙ len-empty key_cmp Inode)

  pub dirty_count : 0 ≡ map.len f.dirty
  dirty_count = sym (ap (λ (m : Marks). map.len m) no_changes ∙ len-empty key_cmp Mark)

  pub dirty_pairs : [] ≡ map.entries f.dirty
  dirty_pairs = no_pairs ∙ sym (ap (λ (m : Marks). map.entries m) no_changes)

  pub are_dirty : AreDirtyNames f.dirty
  are_dirty = none_dirty f.dirty no_changes

  pub no_rows : (after : Option (List ℕ)) → [] ≡ rows_after after (map.entries (shown_names f))
  no_rows after = ap (λ (rows : List NamedInode). rows_after after rows) no_pairs ∙ sym (ap (λ (n : Names). rows_after after (map.entries n)) nothing)

  -- an empty map is what it gives away
  pub given_away : (names : Names) → names ≡ map.empty → names ≡ shown_names f
  given_away names none = none ∙ sym nothing

  -- as many names as there is room for are none
  pub joins_none : (names : Names) (version : ℕ) → map.len names ≤ f.room → Joins f f names version
  joins_none names version fit =
      let full : f.room ≡ 0 = sym (ap (λ (g : Cached). g.room) is) in
      let few : map.len names ≡ 0 = omega (arith, fit, full) in
      let none : (q : List ℕ) → map.get names q ≡ None = λ q. ap (λ (n : Names). map.get n q) (empty_of_len names few) ∙ get-empty key_cmp q in
      record {
        dirty = λ q. sym (ap (λ (r : Option Inode). marked_as version r (map.get f.dirty q)) (none q));
        shown = λ q. sym (ap (λ (r : Option Inode). shown_as r (map.get (shown_names f) q)) (none q));
        room = omega (arith, few);
        same = refl;
      }

  pub taken : (names : Marks) → names ≡ map.empty → (snap : Snap) → snap ≡ record { base = base; names = names; counts = record { files = 0; dirs = 0 } } → snap ≡ snapshot_of f
  taken names none snap same =
      same ∙ (λ i. record { base = base; names = (none ∙ sym no_changes) i; counts = none_counted i }) ∙ ap (λ (b : Base). record { base = b; names = f.dirty; counts = counts_of (shown_names f) }) (ap (λ (g : Cached). g.base) is)

  -- no name is dirty once another commit has ended
  pub none_settled : (snap : Marks) → map.empty ≡ unsettled f.dirty snap
  none_settled snap =
      let nowhere : (q : List ℕ) → map.get f.dirty q ≡ None = λ q. ap (λ (m : Marks). map.get m q) no_changes ∙ get-empty key_cmp q in
      sym (one_map _ _ (λ q. get-unsettled f.dirty snap q ∙ ap (λ (r : Option Mark). cond (not (is_settled r (map.get snap q))) r None) (nowhere q) ∙ sym (get-empty key_cmp q)))

-- where its object counts it is clean
pub all_clean : (version generation : ℕ) (f : Cached) → nameless (Stored version) generation ≡ f → true ≡ is_clean f
all_clean version generation f is = ap (λ (n : ℕ). n == 0) (sym (len-empty key_cmp Mark)) ∙ ap is_clean is
