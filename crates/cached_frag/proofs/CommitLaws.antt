-- The object that a commit leaves spells what its snapshot shows.
use Rattle.std.proofs.Common.{◌≡◌, ℕ, suc, ◌-◌, ◌^◌, ◌<◌, ◌≤◌, Bool, true, false, cond, ◌⊎◌, List, Option, Some, None, refl, sym, ap, subst, ◌∙◌, inl, inr, arith}
use Rattle.std.proofs.lemmas.Map.Lookups.{exact_bytes}
use Rattle.std.specs.Prelude.{is_some, IfSome}
use Rattle.std.specs.Option.{option_or}
use Rattle.std.specs.Cmp.Lexicographic.{nat_list_cmp_total}
use Rattle.std.specs.FinMap as map
use Rattle.std.specs.FinMap.{get-empty}
use Rattle.sorted_map.proofs.MapLaws.{get-overlaid, get-without_keys}
use Rattle.sorted_map.specs.Overlay.{overlaid, without_keys}
use Rattle.mds_types.specs.declared.inodes.Inode.{Inode}
use Rattle.objstore.specs.EntryKeys.{entry_key}
use Rattle.objstore.specs.Omap.{Keys, Omap, PairMap, key_cmp}
use Rattle.objstore.proofs.WriteLaws.{applied-parts}
use Rattle.objstore.specs.Writes.{applied}
use Rattle.dirfrag_codec.specs.EntryRecord.{HasRecord, SpellsEntry, entry_bytes}
use Rattle.dirfrag_codec.specs.FragHeader.{SpellsHeader, header_bytes}
use Rattle.dirfrag_codec.specs.FragmentObject.{HasPair, IsPairOf, Names, SpellsFragment, SpellsNames, header_for}
use Rattle.dirfrag_codec.proofs.FragmentLaws.{one_name}
use Rattle.cached_frag.specs.declared.bases.Base.{Base}
use Rattle.cached_frag.specs.declared.bases.Base.TheVariants.{Fresh, Stored}
use Rattle.cached_frag.specs.declared.bases.EntryCounts.{EntryCounts}
use Rattle.cached_frag.specs.declared.marks.Mark.{Mark}
use Rattle.cached_frag.specs.Commit.{CommitIsRight, IsOver, gone_of, header_of_commit, set_of, write_of}
use Rattle.cached_frag.specs.Marks.{AreDirtyNames, Marks, inode_or, patched}
use Rattle.cached_frag.specs.Snap.{IsSnap, Snap, counts_of, next_version}
use Rattle.cached_frag.proofs.MarkLaws.{get-patched}
use Rattle.cached_frag.proofs.WriteLaws.{IsEntryKey, bytes_or, get-gone_of, get-set_of, gone_or, key_or, no_pairs, record_or, set_keys}

-- what the pairs have at a name's key after a commit
abbrev after_mark : Option Mark → Option (List ℕ) → Option (List ℕ)
after_mark None below = below
after_mark (Some mark) below = bytes_or mark.inode None

-- ---- pairs of such look-ups spell the names

module _ (base after : PairMap) (names : Names) (marks : Marks) (dirty : AreDirtyNames marks) (spelled : SpellsNames base names)
    (at_each : (name : List ℕ) → map.get after (entry_key name) ≡ after_mark (map.get marks name) (map.get base (entry_key name)))
    (keyed : (key bytes : List ℕ) → map.get after key ≡ Some bytes → IsEntryKey key) where
  shown : (name : List ℕ) (mark : Option Mark) (inode : Option Inode) → map.get marks name ≡ mark → inode_or mark (map.get names name) ≡ inode → map.get (patched names marks) name ≡ inode
  shown name mark inode is value = get-patched names marks name ∙ ap (λ (r : Option Mark). inode_or r (map.get names name)) is ∙ value

  of_base : (key name bytes : List ℕ) → key ≡ entry_key name → map.get marks name ≡ None → map.get base (entry_key name) ≡ Some bytes → IsPairOf (patched names marks) key bytes
  of_base key name bytes is clean found =
      let p = spelled.read (entry_key name) bytes found in
      let same : p.name ≡ name = sym (one_name name p.name p.keyed) in
      record {
        name = p.name;
        inode = p.inode;
        named = p.named;
        keyed = is ∙ p.keyed;
        spelled = p.spelled;
        held = shown p.name None (Some p.inode) (ap (λ (q : List ℕ). map.get marks q) same ∙ clean) p.held;
      }

  recorded : (name : List ℕ) (mark : Mark) (inode : Inode) → map.get marks name ≡ Some mark → mark.inode ≡ Some inode → HasRecord inode
  recorded name mark inode is present = subst (λ (o : Option Inode). IfSome o HasRecord) present (dirty name mark is).recorded

  some_bytes : (a b : List ℕ) → Some a ≡ Some b → a ≡ b
  some_bytes a b e = cc

  of_mark : (key name bytes : List ℕ) (mark : Mark) (inode : Option Inode) → key ≡ entry_key name → map.get marks name ≡ Some mark → mark.inode ≡ inode → bytes_or inode None ≡ Some bytes → IsPairOf (patched names marks) key bytes
  of_mark key name bytes mark (Some inode) is marked present found =
      let spelling : entry_bytes inode ≡ bytes = some_bytes (entry_bytes inode) bytes found in
      record {
        name = name;
        inode = inode;
        named = (dirty name mark marked).named;
        keyed = is;
        spelled = subst (λ (b : List ℕ). SpellsEntry b inode) spelling (inr (recorded name mark inode marked present));
        held = shown name (Some mark) (Some inode) marked present;
      }
  of_mark key name bytes mark None is marked present found = absurd cc

  read_after : (key bytes : List ℕ) → map.get after key ≡ Some bytes → IsPairOf (patched names marks) key bytes
  read_after key bytes found =
      let k = keyed key bytes found in
      let at : after_mark (map.get marks k.0) (map.get base (entry_key k.0)) ≡ Some bytes = sym (at_each k.0) ∙ ap (λ (q : List ℕ). map.get after q) (sym k.1) ∙ found in
      go k.0 k.1 (map.get marks k.0) refl at
    where
      go : (name : List ℕ) → key ≡ entry_key name → (mark : Option Mark) → map.get marks name ≡ mark → after_mark mark (map.get base (entry_key name)) ≡ Some bytes → IsPairOf (patched names marks) key bytes
      go name is (Some mark) marked at = of_mark key name bytes mark mark.inode is marked refl at
      go name is None marked at = of_base key name bytes is marked at

  held_by_base : (name : List ℕ) (inode : Inode) → map.get marks name ≡ None → map.get names name ≡ Some inode → HasPair after name inode
  held_by_base name inode clean is =
      let p = spelled.held name inode is in
      record { named = p.named; bytes = p.bytes; stands = at_each name ∙ ap (λ (r : Option Mark). after_mark r (map.get base (entry_key name))) clean ∙ p.stands; spelled = p.spelled }

  held_by_mark : (name : List ℕ) (inode : Inode) (mark : Mark) → map.get marks name ≡ Some mark → mark.inode ≡ Some inode → HasPair after name inode
  held_by_mark name inode mark marked present =
      record {
        named = (dirty name mark marked).named;
        bytes = entry_bytes inode;
        stands = at_each name ∙ ap (λ (r : Option Mark). after_mark r (map.get base (entry_key name))) marked ∙ ap (λ (o : Option Inode). bytes_or o None) present;
        spelled = inr (recorded name mark inode marked present);
      }

  held_after : (name : List ℕ) (inode : Inode) → map.get (patched names marks) name ≡ Some inode → HasPair after name inode
  held_after name inode is = go (map.get marks name) refl
    where
      go : (mark : Option Mark) → map.get marks name ≡ mark → HasPair after name inode
      go (Some mark) marked =
          held_by_mark name inode mark marked (sym (ap (λ (r : Option Mark). inode_or r (map.get names name)) marked) ∙ sym (get-patched names marks name) ∙ is)
      go None clean = held_by_base name inode clean (sym (ap (λ (r : Option Mark). inode_or r (map.get names name)) clean) ∙ sym (get-patched names marks name) ∙ is)

  spelled_after : SpellsNames after (patched names marks)
  spelled_after = record { read = read_after; held = held_after }

-- ---- the look-ups after a commit

abbrev after_write : PairMap → PairMap → Keys → PairMap
after_write base set gone = without_keys (overlaid base set) gone

looked_up : (base set : PairMap) (gone : Keys) (key : List ℕ) → map.get (after_write base set gone) key ≡ cond (is_some (map.get gone key)) None (option_or (map.get set key) (map.get base key))
looked_up base set gone key =
    get-without_keys exact_bytes (overlaid base set) gone key
    ∙ ap (λ (r : Option (List ℕ)). cond (is_some (map.get gone key)) None r) (get-overlaid nat_list_cmp_total base set key)

-- over an object that counts
over_mark : (mark : Option Mark) (below : Option (List ℕ)) → cond (is_some (gone_or mark None)) None (option_or (record_or mark None) below) ≡ after_mark mark below
over_mark None below = refl
over_mark (Some mark) below = go mark.inode
  where
    go : (inode : Option Inode) → cond (is_some (key_or inode None)) None (option_or (bytes_or inode None) below) ≡ bytes_or inode None
    go (Some inode) = refl
    go None = refl

at_stored : (base : PairMap) (marks : Marks) (name : List ℕ) → map.get (after_write base (set_of marks) (gone_of marks)) (entry_key name) ≡ after_mark (map.get marks name) (map.get base (entry_key name))
at_stored base marks name =
    let below = map.get base (entry_key name) in
    looked_up base (set_of marks) (gone_of marks) (entry_key name)
    ∙ ap (λ (r : Option (Unit {0})). cond (is_some r) None (option_or (map.get (set_of marks) (entry_key name)) below)) (get-gone_of marks name)
    ∙ ap (λ (r : Option (List ℕ)). cond (is_some (gone_or (map.get marks name) None)) None (option_or r below)) (get-set_of marks name)
    ∙ over_mark (map.get marks name) below

-- over nothing
over_nothing : (mark : Option Mark) → option_or (record_or mark None) None ≡ after_mark mark None
over_nothing None = refl
over_nothing (Some mark) = go mark.inode
  where
    go : (inode : Option Inode) → option_or (bytes_or inode None) None ≡ bytes_or inode None
    go (Some inode) = refl
    go None = refl

at_fresh : (marks : Marks) (name : List ℕ) → map.get (after_write map.empty (set_of marks) map.empty) (entry_key name) ≡ after_mark (map.get marks name) (map.get no_pairs (entry_key name))
at_fresh marks name =
    looked_up map.empty (set_of marks) map.empty (entry_key name)
    ∙ ap (λ (r : Option (Unit {0})). cond (is_some r) None (option_or (map.get (set_of marks) (entry_key name)) (map.get no_pairs (entry_key name)))) (get-empty key_cmp (entry_key name))
    ∙ ap (λ (r : Option (List ℕ)). option_or (map.get (set_of marks) (entry_key name)) r) (get-empty key_cmp (entry_key name))
    ∙ ap (λ (r : Option (List ℕ)). option_or r None) (get-set_of marks name)
    ∙ over_nothing (map.get marks name)
    ∙ ap (after_mark (map.get marks name)) (sym (get-empty key_cmp (entry_key name)))

-- each pair lies under a name's key
some_left : (gone : Bool) (set below : Option (List ℕ)) (bytes : List ℕ) → set ≡ None → cond gone None (option_or set below) ≡ Some bytes → below ≡ Some bytes
some_left true set below bytes none is = absurd cc
some_left false set below bytes none is = sym (ap (λ (r : Option (List ℕ)). option_or r below) none) ∙ is

keys_after : (base : PairMap) (marks : Marks) (gone : Keys) → ((key bytes : List ℕ) → map.get base key ≡ Some bytes → IsEntryKey key)
    → (key bytes : List ℕ) → map.get (after_write base (set_of marks) gone) key ≡ Some bytes → IsEntryKey key
keys_after base marks gone below key bytes found = go (set_keys marks key)
  where
    go : (map.get (set_of marks) key ≡ None) ⊎ IsEntryKey key → IsEntryKey key
    go (inl none) = below key bytes (some_left (is_some (map.get gone key)) (map.get (set_of marks) key) (map.get base key) bytes none (sym (looked_up base (set_of marks) gone key) ∙ found))
    go (inr is) = is

spelled_keys : (base : PairMap) (names : Names) → SpellsNames base names → (key bytes : List ℕ) → map.get base key ≡ Some bytes → IsEntryKey key
spelled_keys base names s key bytes found = let p = s.read key bytes found in (p.name, p.keyed)

nothing_at : {X P : Type 0} (key : List ℕ) (x : X) → map.get (map.empty {X = X} {R = key_cmp}) key ≡ Some x → P
nothing_at key x found = let clash : None ≡ Some x = sym (get-empty key_cmp key) ∙ found in absurd cc

pub spells_nothing : SpellsNames map.empty map.empty
spells_nothing = record { read = λ key bytes found. nothing_at key bytes found; held = λ name inode found. nothing_at name inode found }

-- ---- the whole

header_spelled : (snap : Snap) (names : Names) → IsSnap snap → 1 ≤ next_version snap.base → next_version snap.base < 2 ^ 64 → snap.counts ≡ counts_of names
    → SpellsHeader (header_bytes (header_of_commit snap)) (header_for (next_version snap.base) names)
header_spelled snap names ok some below counts =
    let same : header_of_commit snap ≡ header_for (next_version snap.base) names = λ i. record { version = next_version snap.base; files = (counts i).files; dirs = (counts i).dirs } in
    subst (SpellsHeader (header_bytes (header_of_commit snap))) same (record { committed = some; version = below; files = ok.files; dirs = ok.dirs; spelled = refl })

module _ (base : Base) (marks : Marks) (counts : EntryCounts) (object : Omap) where
  abbrev snap_of : Snap
  snap_of = record { base = base; names = marks; counts = counts }

fresh_right : (marks : Marks) (counts : EntryCounts) (object : Omap) → IsSnap (snap_of Fresh marks counts object)
    → SpellsFragment (applied (write_of (snap_of Fresh marks counts object)) object) 1 (patched map.empty marks)
fresh_right marks counts object ok =
    let snap = snap_of Fresh marks counts object in
    subst (λ (o : Omap). SpellsFragment o 1 (patched map.empty marks)) (sym (applied-parts (write_of snap) object))
    (record {
      header = header_spelled snap (patched map.empty marks) ok (omega arith) (omega arith) ok.counted;
      pairs = spelled_after map.empty (after_write map.empty (set_of marks) map.empty) map.empty marks ok.dirty spells_nothing (at_fresh marks)
          (keys_after map.empty marks map.empty (λ key bytes found. nothing_at key bytes found));
    })

stored_right : (version : ℕ) (marks : Marks) (counts : EntryCounts) (object : Omap) (names : Names) → IsSnap (snap_of (Stored version) marks counts object) → SpellsFragment object version names
    → counts ≡ counts_of (patched names marks) → SpellsFragment (applied (write_of (snap_of (Stored version) marks counts object)) object) (suc version) (patched names marks)
stored_right version marks counts object names ok s counted =
    let snap = snap_of (Stored version) marks counts object in
    let below : version < 2 ^ 64 - 1 = ok.below in
    subst (λ (o : Omap). SpellsFragment o (suc version) (patched names marks)) (sym (applied-parts (write_of snap) object))
    (record {
      header = header_spelled snap (patched names marks) ok (omega arith) (omega (arith, below)) counted;
      pairs = spelled_after object.pairs (after_write object.pairs (set_of marks) (gone_of marks)) names marks ok.dirty s.pairs (at_stored object.pairs marks)
          (keys_after object.pairs marks (gone_of marks) (spelled_keys object.pairs names s.pairs));
    })

by_base : (base : Base) (marks : Marks) (counts : EntryCounts) (object : Omap) (names : Names) → IsSnap (snap_of base marks counts object) → IsOver base (snap_of base marks counts object) object names
    → SpellsFragment (applied (write_of (snap_of base marks counts object)) object) (next_version base) (patched names marks)
by_base Fresh marks counts object names ok over =
    subst (λ (n : Names). SpellsFragment (applied (write_of (snap_of Fresh marks counts object)) object) 1 (patched n marks)) (sym over) (fresh_right marks counts object ok)
by_base (Stored version) marks counts object names ok over = stored_right version marks counts object names ok over.0 over.1

pub commit_is_right : CommitIsRight
commit_is_right snap object names ok over = by_base snap.base snap.names snap.counts object names ok over
