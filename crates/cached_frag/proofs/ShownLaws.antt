-- What a fragment shows, name by name, and once a name has changed.
use Rattle.std.proofs.Common.{◌≡◌, ℕ, ◌⊎◌, inl, inr, List, Option, Some, None, refl, sym, ap, subst, ◌∙◌}
use Rattle.std.specs.Prelude.{IfSome}
use Rattle.std.specs.FinMap as map
use Rattle.std.specs.FinMap.{get-empty}
use Rattle.mds_types.specs.declared.inodes.Inode.{Inode}
use Rattle.objstore.specs.Omap.{key_cmp}
use Rattle.dirfrag_codec.specs.EntryRecord.{HasRecord}
use Rattle.dirfrag_codec.specs.FragmentObject.{Names}
use Rattle.dirfrag_codec.proofs.ByteKeys.{get_beside, get_put, one_map, same_or_apart}
use Rattle.cached_frag.specs.declared.bases.Base.{Base}
use Rattle.cached_frag.specs.declared.bases.Base.TheVariants.{Fresh, Stored}
use Rattle.cached_frag.specs.declared.marks.Mark.{Mark}
use Rattle.cached_frag.specs.Marks.{AreDirtyNames, Marks, inode_or, patched, with_changed_name}
use Rattle.cached_frag.proofs.MarkLaws.{get-patched, marked_beside, marked_here}
use Rattle.cached_frag.specs.Cached.{AreEntries, Cached, IsBased, IsEntry, marked, names_below, shown_names, shown_over}

-- the names that were fetched are those of the base
pub below_is : (base : Base) (clean : Names) → IsBased base clean → names_below base clean ≡ clean
below_is Fresh clean based = sym based
below_is (Stored version) clean based = refl

pub get-shown : (base : Base) (clean : Names) (dirty : Marks) (name : List ℕ) → IsBased base clean → map.get (shown_over base clean dirty) name ≡ inode_or (map.get dirty name) (map.get clean name)
get-shown base clean dirty name based = get-patched (names_below base clean) dirty name ∙ ap (λ (n : Names). inode_or (map.get dirty name) (map.get n name)) (below_is base clean based)

-- ---- each name that is shown is an entry

entry_or : (clean : Names) (dirty : Marks) (name : List ℕ) (inode : Inode) → AreEntries clean → AreDirtyNames dirty → (mark : Option Mark) → map.get dirty name ≡ mark → inode_or mark (map.get clean name) ≡ Some inode → IsEntry name inode
entry_or clean dirty name inode entries marks (Some mark) is found = record { named = (marks name mark is).named; recorded = subst (λ (o : Option Inode). IfSome o HasRecord) found (marks name mark is).recorded }
entry_or clean dirty name inode entries marks None is found = entries name inode found

pub shown_entries : (base : Base) (clean : Names) (dirty : Marks) → IsBased base clean → AreEntries clean → AreDirtyNames dirty → AreEntries (shown_over base clean dirty)
shown_entries base clean dirty based entries marks name inode is = entry_or clean dirty name inode entries marks (map.get dirty name) refl (sym (get-shown base clean dirty name based) ∙ is)

recorded_if : (names : Names) (name : List ℕ) → AreEntries names → (o : Option Inode) → map.get names name ≡ o → IfSome o HasRecord
recorded_if names name entries (Some inode) is = (entries name inode is).recorded
recorded_if names name entries None is = tt

pub recorded_shown : (names : Names) (name : List ℕ) (o : Option Inode) → AreEntries names → o ≡ map.get names name → IfSome o HasRecord
recorded_shown names name o entries is = recorded_if names name entries o (sym is)

-- ---- a change of one name

pub patched_insert : (names : Names) (dirty : Marks) (name : List ℕ) (mark : Mark) → patched names (map.insert dirty name mark) ≡ with_changed_name (patched names dirty) name mark.inode
patched_insert names dirty name mark = one_map _ _ (λ q. get-patched names (map.insert dirty name mark) q ∙ go q (same_or_apart q name))
  where
    go : (q : List ℕ) → (q ≡ name) ⊎ (q ≡ name → ⊥) → inode_or (map.get (map.insert dirty name mark) q) (map.get names q) ≡ map.get (with_changed_name (patched names dirty) name mark.inode) q
    go q (inl same) =
        let found : map.get (map.insert dirty name mark) q ≡ Some mark = ap (λ (a : List ℕ). map.get (map.insert dirty name mark) a) same ∙ get_put dirty name mark in
        ap (λ (r : Option Mark). inode_or r (map.get names q)) found ∙ sym (marked_here (patched names dirty) name mark.inode) ∙ ap (λ (a : List ℕ). map.get (with_changed_name (patched names dirty) name mark.inode) a) (sym same)
    go q (inr apart) =
        ap (λ (r : Option Mark). inode_or r (map.get names q)) (get_beside dirty name mark q apart) ∙ sym (get-patched names dirty q) ∙ sym (marked_beside (patched names dirty) name mark.inode q apart)

pub shown_marked : (f : Cached) (name : List ℕ) (mark : Mark) → shown_names (marked f name mark) ≡ with_changed_name (shown_names f) name mark.inode
shown_marked f name mark = patched_insert (names_below f.base f.clean) f.dirty name mark

pub shown_put : (base : Base) (clean : Names) (dirty new : Marks) (name : List ℕ) (mark : Mark) → new ≡ map.insert dirty name mark → shown_over base clean new ≡ with_changed_name (shown_over base clean dirty) name mark.inode
shown_put base clean dirty new name mark same = ap (shown_over base clean) same ∙ patched_insert (names_below base clean) dirty name mark

-- with no dirty names a fragment shows its base
pub only_below : (names : Names) (dirty : Marks) → dirty ≡ map.empty → patched names dirty ≡ names
only_below names dirty none = one_map _ _ (λ q. get-patched names dirty q ∙ ap (λ (m : Marks). inode_or (map.get m q) (map.get names q)) none ∙ ap (λ (r : Option Mark). inode_or r (map.get names q)) (get-empty key_cmp q))

pub nothing_shown : (dirty : Marks) → dirty ≡ map.empty → patched map.empty dirty ≡ map.empty
nothing_shown dirty none = only_below map.empty dirty none
