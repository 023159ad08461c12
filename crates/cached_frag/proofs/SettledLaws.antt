-- Names that become clean: what is dirty then, and what is shown.
use Rattle.std.proofs.Common.{◌≡◌, ℕ, Bool, true, false, cond, not, ◌⊎◌, inl, inr, List, [], ◌∷◌, Option, Some, None, refl, sym, ap, subst, ◌∙◌}
use Rattle.std.proofs.lemmas.Bool.{eq-eqb}
use Rattle.std.specs.Prelude.{T, IfSome}
use Rattle.std.specs.Ordering.{eq_by_cmp}
use Rattle.std.specs.FinMap as map
use Rattle.std.specs.FinMap.{find, is_sorted, entries_sorted, get-empty, get-entries, get-retain_keys}
use Rattle.std.proofs.lemmas.Map.Lookups.{exact_bytes}
use Rattle.sorted_map.proofs.Bools.{left_of, right_of}
use Rattle.sorted_map.proofs.MapLaws.{swapped}
use Rattle.mds_types.specs.declared.inodes.Inode.{Inode}
use Rattle.objstore.specs.Omap.{key_cmp}
use Rattle.dirfrag_codec.specs.EntryRecord.{HasRecord}
use Rattle.dirfrag_codec.specs.FragmentObject.{Names}
use Rattle.dirfrag_codec.proofs.ByteKeys.{get_left, get_removed, key_apart, key_same, not_found, one_map, same_or_apart}
use Rattle.cached_frag.specs.declared.marks.Mark.{Mark}
use Rattle.cached_frag.specs.Marks.{AreDirtyNames, IsDirtyName, Marks, inode_or, patched, with_changed_name}
use Rattle.cached_frag.proofs.MarkLaws.{get-patched, marked_beside, marked_here}
use Rattle.cached_frag.specs.Cached.{AreEntries, IsEntry, is_settled, unsettled}
use Rattle.cached_frag.specs.Settling.{IsTakenFrom, is_at, settled_in, settled_one}

-- ---- what is dirty

pub get-unsettled : (dirty snap : Marks) (q : List ℕ) → map.get (unsettled dirty snap) q ≡ cond (not (is_settled (map.get dirty q) (map.get snap q))) (map.get dirty q) None
unfolding unsettled
get-unsettled dirty snap q =
    get-retain_keys dirty (λ name. not (is_settled (map.get dirty name) (map.get snap name))) q (λ x tied. ap (λ (k : List ℕ). not (is_settled (map.get dirty k) (map.get snap k))) (sym (exact_bytes q x tied)))

settled_beside : (dirty : Marks) (name : List ℕ) (version : ℕ) (q : List ℕ) → (q ≡ name → ⊥) → map.get (settled_one dirty name version) q ≡ map.get dirty q
settled_beside dirty name version q apart = go (is_at version (map.get dirty name))
  where
    go : (b : Bool) → map.get (cond b (map.remove dirty name) dirty) q ≡ map.get dirty q
    go true = get_left dirty name q apart
    go false = refl

settled_here : (dirty : Marks) (name : List ℕ) (version : ℕ) → map.get (settled_one dirty name version) name ≡ cond (is_at version (map.get dirty name)) None (map.get dirty name)
settled_here dirty name version = go (is_at version (map.get dirty name))
  where
    go : (b : Bool) → map.get (cond b (map.remove dirty name) dirty) name ≡ cond b None (map.get dirty name)
    go true = get_removed dirty name
    go false = refl

-- a name that is none of the snapshot's stays
left_alone : (mark then : Option Mark) → then ≡ None → cond (is_settled mark then) None mark ≡ mark
left_alone (Some mark) (Some then) none = absurd cc
left_alone (Some mark) None none = refl
left_alone None then none = refl

at_is_settled : (mark : Option Mark) (then : Mark) → is_at then.version mark ≡ is_settled mark (Some then)
at_is_settled (Some mark) then = refl
at_is_settled None then = refl

get-settled_in : (dirty : Marks) (es : List (List ℕ × Mark)) (q : List ℕ) → T (is_sorted key_cmp es) → map.get (settled_in dirty es) q ≡ cond (is_settled (map.get dirty q) (find key_cmp q es)) None (map.get dirty q)
get-settled_in dirty [] q sorted = sym (left_alone (map.get dirty q) None refl)
get-settled_in dirty (e ∷ es) q sorted = get-settled_in (settled_one dirty e.0 e.1.version) es q (right_of _ _ sorted) ∙ go (same_or_apart q e.0)
  where
    go : (q ≡ e.0) ⊎ (q ≡ e.0 → ⊥)
        → cond (is_settled (map.get (settled_one dirty e.0 e.1.version) q) (find key_cmp q es)) None (map.get (settled_one dirty e.0 e.1.version) q)
        ≡ cond (is_settled (map.get dirty q) (cond (eq_by_cmp key_cmp q e.0) (Some e.1) (find key_cmp q es))) None (map.get dirty q)
    go (inl same) =
        left_alone (map.get (settled_one dirty e.0 e.1.version) q) (find key_cmp q es) (not_found e.0 q es same (left_of _ _ sorted))
        ∙ ap (λ (k : List ℕ). map.get (settled_one dirty e.0 e.1.version) k) same ∙ settled_here dirty e.0 e.1.version
        ∙ ap (λ (b : Bool). cond b None (map.get dirty e.0)) (at_is_settled (map.get dirty e.0) e.1)
        ∙ ap (λ (k : List ℕ). cond (is_settled (map.get dirty k) (Some e.1)) None (map.get dirty k)) (sym same)
        ∙ sym (ap (λ (b : Bool). cond (is_settled (map.get dirty q) (cond b (Some e.1) (find key_cmp q es))) None (map.get dirty q)) (key_same q e.0 same))
    go (inr apart) =
        ap (λ (r : Option Mark). cond (is_settled r (find key_cmp q es)) None r) (settled_beside dirty e.0 e.1.version q apart)
        ∙ sym (ap (λ (b : Bool). cond (is_settled (map.get dirty q) (cond b (Some e.1) (find key_cmp q es))) None (map.get dirty q)) (key_apart q e.0 apart))

pub settled_is : (dirty snap : Marks) → settled_in dirty (map.entries snap) ≡ unsettled dirty snap
settled_is dirty snap = one_map _ _ (λ q.
    get-settled_in dirty (map.entries snap) q (entries_sorted snap) ∙ ap (λ (r : Option Mark). cond (is_settled (map.get dirty q) r) None (map.get dirty q)) (sym (get-entries snap q))
    ∙ sym (swapped (is_settled (map.get dirty q) (map.get snap q)) (map.get dirty q) None) ∙ sym (get-unsettled dirty snap q))

-- where no name has changed since, none stays dirty
pub all_settled : (dirty snap : Marks) → dirty ≡ snap → unsettled dirty snap ≡ map.empty
all_settled dirty snap same = one_map _ _ (λ q.
    get-unsettled dirty snap q ∙ ap (λ (m : Marks). cond (not (is_settled (map.get dirty q) (map.get m q))) (map.get dirty q) None) (sym same) ∙ go (map.get dirty q) ∙ sym (get-empty key_cmp q))
  where
    go : (mark : Option Mark) → cond (not (is_settled mark mark)) mark None ≡ None
    go (Some mark) = ap (λ (b : Bool). cond (not b) (Some mark) None) (eq-eqb mark.version mark.version refl)
    go None = refl

pub none_dirty : (marks : Marks) → marks ≡ map.empty → AreDirtyNames marks
none_dirty marks none name mark is = let clash : None ≡ Some mark = sym (get-empty key_cmp name) ∙ sym (ap (λ (m : Marks). map.get m name) none) ∙ is in absurd cc

-- ---- what a taken name leaves

module _ (clean after : Names) (old new : Marks) (name : List ℕ) (version : ℕ) (pair : List ℕ × Mark) (taken : IsTakenFrom old new name version (Some pair)) (put : after ≡ with_changed_name clean pair.0 pair.1.inode) where
  put_here : after ≡ with_changed_name clean name pair.1.inode
  put_here = put ∙ ap (λ (k : List ℕ). with_changed_name clean k pair.1.inode) taken.0

  pub taken_shown : patched after new ≡ patched clean old
  taken_shown = one_map _ _ (λ q. get-patched after new q ∙ go q (same_or_apart q name) ∙ sym (get-patched clean old q))
    where
      go : (q : List ℕ) → (q ≡ name) ⊎ (q ≡ name → ⊥) → inode_or (map.get new q) (map.get after q) ≡ inode_or (map.get old q) (map.get clean q)
      go q (inl same) =
          let gone : map.get new q ≡ None = ap (λ (m : Marks). map.get m q) taken.3 ∙ ap (λ (k : List ℕ). map.get (map.remove old name) k) same ∙ get_removed old name in
          let now : map.get after q ≡ pair.1.inode = ap (λ (m : Names). map.get m q) put_here ∙ ap (λ (k : List ℕ). map.get (with_changed_name clean name pair.1.inode) k) same ∙ marked_here clean name pair.1.inode in
          let was : map.get old q ≡ Some pair.1 = ap (λ (k : List ℕ). map.get old k) same ∙ taken.1 in
          ap (λ (r : Option Mark). inode_or r (map.get after q)) gone ∙ now ∙ sym (ap (λ (r : Option Mark). inode_or r (map.get clean q)) was)
      go q (inr apart) =
          let gone : map.get new q ≡ map.get old q = ap (λ (m : Marks). map.get m q) taken.3 ∙ get_left old name q apart in
          let now : map.get after q ≡ map.get clean q = ap (λ (m : Names). map.get m q) put_here ∙ marked_beside clean name pair.1.inode q apart in
          λ i. inode_or (gone i) (now i)

  pub taken_entries : AreEntries clean → AreDirtyNames old → AreEntries after
  taken_entries entries marks q inode is = go (same_or_apart q name)
    where
      go : (q ≡ name) ⊎ (q ≡ name → ⊥) → IsEntry q inode
      go (inl same) =
          let now : pair.1.inode ≡ Some inode = sym (ap (λ (m : Names). map.get m q) put_here ∙ ap (λ (k : List ℕ). map.get (with_changed_name clean name pair.1.inode) k) same ∙ marked_here clean name pair.1.inode) ∙ is in
          let mark = marks name pair.1 taken.1 in
          subst (λ (k : List ℕ). IsEntry k inode) (sym same) (record { named = mark.named; recorded = subst (λ (o : Option Inode). IfSome o HasRecord) now mark.recorded })
      go (inr apart) = entries q inode (sym (ap (λ (m : Names). map.get m q) put_here ∙ marked_beside clean name pair.1.inode q apart) ∙ is)

pub taken_marks : (old new : Marks) (name : List ℕ) (version : ℕ) (taken : Option (List ℕ × Mark)) → IsTakenFrom old new name version taken → AreDirtyNames old → AreDirtyNames new
taken_marks old new name version None is marks q mark found = marks q mark (sym (ap (λ (m : Marks). map.get m q) is.1) ∙ found)
taken_marks old new name version (Some pair) is marks q mark found = go (same_or_apart q name)
  where
    at : map.get (map.remove old name) q ≡ Some mark
    at = sym (ap (λ (m : Marks). map.get m q) is.3) ∙ found

    go : (q ≡ name) ⊎ (q ≡ name → ⊥) → IsDirtyName q mark
    go (inl same) = let clash : None ≡ Some mark = sym (get_removed old name) ∙ sym (ap (λ (k : List ℕ). map.get (map.remove old name) k) same) ∙ at in absurd cc
    go (inr apart) = marks q mark (sym (get_left old name q apart) ∙ at)
