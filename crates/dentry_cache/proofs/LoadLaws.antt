-- An object read pair by pair, and the fragment that it spells.
use Rattle.std.proofs.Common.{◌≡◌, ℕ, ◌^◌, ◌/◌, ◌%◌, Bool, true, false, cond, ◌⊎◌, inl, inr, List, [], ◌∷◌, Option, Some, None, refl, sym, ap, subst, ◌∙◌, arith}
use Rattle.std.specs.Prelude.{◌≤◌, T}
use Rattle.std.specs.Ordering.{eq_by_cmp}
use Rattle.std.proofs.lemmas.Bool.{and_from, and_parts, eqb-true, eq-eqb}
use Rattle.std.specs.FinMap as map
use Rattle.std.specs.FinMap.{find, is_sorted, entries_sorted, get-empty, get-entries, len-empty}
use Rattle.sorted_map.proofs.Bools.{left_of, right_of}
use Rattle.sorted_map.proofs.Filters.{all_kept}
use Rattle.sorted_map.specs.SortedMap.{Shown, contents}
use Rattle.mds_types.specs.Frag.{Contains, Fragment, span}
use Rattle.mds_types.specs.Name.{IsName}
use Rattle.mds_types.specs.declared.inodes.Inode.{Inode}
use Rattle.objstore.specs.EntryKeys.{entry_key}
use Rattle.objstore.specs.Omap.{Omap, PairMap, key_cmp, pairs_after}
use Rattle.namehash.specs.Rjenkins.{hash_of}
use Rattle.dirfrag_codec.specs.declared.headers.FragHeader.{FragHeader}
use Rattle.dirfrag_codec.specs.EntryRecord.{SpellsEntry}
use Rattle.dirfrag_codec.specs.FragHeader.{SpellsHeader}
use Rattle.dirfrag_codec.specs.FragmentObject.{HasPair, IsPairOf, Names, SpellsKey, SpellsNames, header_for, with_pair}
use Rattle.dirfrag_codec.specs.Values.{inode_of_record, name_of_key}
use Rattle.dirfrag_codec.proofs.ByteKeys.{get_beside, get_put, key_apart, key_same, not_found, same_or_apart}
use Rattle.dirfrag_codec.proofs.FragmentLaws.{names_shown, one_name, spells_what_it_shows}
use Rattle.dirfrag_codec.proofs.HeaderLaws.{one_header}
use Rattle.dirfrag_codec.proofs.RecordLaws.{one_entry, recorded as spelled_recorded}
use Rattle.dirfrag_codec.proofs.ValueLaws.{one_key, read_as, reads_entry, reads_key, spelled_as}
use Rattle.cached_frag.specs.declared.bases.Base.TheVariants.{Stored}
use Rattle.cached_frag.specs.Snap.{counts_of}
use Rattle.cached_frag.specs.Cached.{AreEntries, Cached, shown_names}
use Rattle.cached_frag.proofs.ShownLaws.{only_below}
use Rattle.dentry_cache.specs.Loading.{AreWithin, IsSaved, IsWhole, Loads}
use Rattle.dentry_cache.specs.Pairs.{ArePairNames, HasHeaderCounts, IsHeaderOf, added, are_good, holds, is_good, is_good_as}
use Rattle.dentry_cache.specs.Ties.{names_at}

-- ---- good pairs

-- what a good pair says
pub record Says (frag : Fragment) (key bytes : List ℕ) : Type 0 where
  pub name : List ℕ
  pub inode : Inode
  pub named : IsName name
  pub keyed : key ≡ entry_key name
  pub spelled : SpellsEntry bytes inode
  pub key_is : name_of_key key ≡ Some name
  pub record_is : inode_of_record bytes ≡ Some inode
  pub within : holds frag (hash_of name) ≡ true

says_as : (frag : Fragment) (key bytes : List ℕ) (name : Option (List ℕ)) (inode : Option Inode) → name_of_key key ≡ name → inode_of_record bytes ≡ inode → is_good_as frag name inode ≡ true → Says frag key bytes
says_as frag key bytes None inode k r good = absurd cc
says_as frag key bytes (Some name) None k r good = absurd cc
says_as frag key bytes (Some name) (Some inode) k r good =
    let s = spelled_as SpellsKey name_of_key reads_key key name k in
    record {
      name = name;
      inode = inode;
      named = s.0;
      keyed = s.1;
      spelled = spelled_as SpellsEntry inode_of_record reads_entry bytes inode r;
      key_is = k;
      record_is = r;
      within = good;
    }

says : (frag : Fragment) (pair : List ℕ × List ℕ) → is_good frag pair ≡ true → Says frag pair.0 pair.1
says frag pair good = says_as frag pair.0 pair.1 (name_of_key pair.0) (inode_of_record pair.1) refl refl good

-- names with those of good pairs
abbrev at_key : Option (List ℕ) → Option Inode → Option Inode
at_key (Some bytes) below = inode_of_record bytes
at_key None below = below

abbrev found : List ℕ → List (List ℕ × List ℕ) → Option (List ℕ)
found q es = find key_cmp (entry_key q) es

get-added : (frag : Fragment) (es : List (List ℕ × List ℕ)) (names : Names) (q : List ℕ) → T (is_sorted key_cmp es) → are_good frag es ≡ true → map.get (added names es) q ≡ at_key (found q es) (map.get names q)
get-added frag [] names q sorted good = refl
get-added frag (e ∷ es) names q sorted good =
    get-added frag es (with_pair names (name_of_key e.0) (inode_of_record e.1)) q (right_of _ _ sorted) (and_parts (is_good frag e) (are_good frag es) good).1
    ∙ ap (λ (n : Names). at_key (found q es) (map.get n q)) one_more ∙ go (same_or_apart q p.name)
  where
    p : Says frag e.0 e.1
    p = says frag e (and_parts (is_good frag e) (are_good frag es) good).0

    one_more : with_pair names (name_of_key e.0) (inode_of_record e.1) ≡ map.insert names p.name p.inode
    one_more = (λ i. with_pair names (p.key_is i) (p.record_is i))

    go : (q ≡ p.name) ⊎ (q ≡ p.name → ⊥) → at_key (found q es) (map.get (map.insert names p.name p.inode) q) ≡ at_key (cond (eq_by_cmp key_cmp (entry_key q) e.0) (Some e.1) (found q es)) (map.get names q)
    go (inl same) =
        let keys : entry_key q ≡ e.0 = ap entry_key same ∙ sym p.keyed in
        ap (λ (r : Option (List ℕ)). at_key r (map.get (map.insert names p.name p.inode) q)) (not_found e.0 (entry_key q) es keys (left_of _ _ sorted))
        ∙ ap (λ (k : List ℕ). map.get (map.insert names p.name p.inode) k) same ∙ get_put names p.name p.inode ∙ sym p.record_is
        ∙ sym (ap (λ (b : Bool). at_key (cond b (Some e.1) (found q es)) (map.get names q)) (key_same (entry_key q) e.0 keys))
    go (inr apart) =
        ap (at_key (found q es)) (get_beside names p.name p.inode q apart)
        ∙ sym (ap (λ (b : Bool). at_key (cond b (Some e.1) (found q es)) (map.get names q)) (key_apart (entry_key q) e.0 (λ keys. apart (one_name q p.name (keys ∙ p.keyed)))))

-- each pair that is found is good
good_found : (frag : Fragment) (es : List (List ℕ × List ℕ)) (key bytes : List ℕ) → are_good frag es ≡ true → find key_cmp key es ≡ Some bytes → is_good frag (key, bytes) ≡ true
good_found frag [] key bytes good is = absurd cc
good_found frag (e ∷ es) key bytes good is = go (good_found frag es key bytes (and_parts (is_good frag e) (are_good frag es) good).1) (same_or_apart key e.0)
  where
    go : (find key_cmp key es ≡ Some bytes → is_good frag (key, bytes) ≡ true) → (key ≡ e.0) ⊎ (key ≡ e.0 → ⊥) → is_good frag (key, bytes) ≡ true
    go rest (inl same) =
        let here : Some e.1 ≡ Some bytes = sym (ap (λ (b : Bool). cond b (Some e.1) (find key_cmp key es)) (key_same key e.0 same)) ∙ is in
        let value : e.1 ≡ bytes = cc in
        sym (λ i. is_good frag (sym same i, value i)) ∙ (and_parts (is_good frag e) (are_good frag es) good).0
    go rest (inr apart) = rest (sym (ap (λ (b : Bool). cond b (Some e.1) (find key_cmp key es)) (key_apart key e.0 apart)) ∙ is)

good_among : (frag : Fragment) (es : List (List ℕ × List ℕ)) → T (is_sorted key_cmp es) → ((key bytes : List ℕ) → find key_cmp key es ≡ Some bytes → is_good frag (key, bytes) ≡ true) → are_good frag es ≡ true
good_among frag [] sorted each = refl
good_among frag (e ∷ es) sorted each =
    and_from (is_good frag e) (are_good frag es) (each e.0 e.1 (ap (λ (b : Bool). cond b (Some e.1) (find key_cmp e.0 es)) (key_same e.0 e.0 refl)))
    (good_among frag es (right_of _ _ sorted) (λ key bytes is. each key bytes (behind key bytes is (same_or_apart key e.0))))
  where
    behind : (key bytes : List ℕ) → find key_cmp key es ≡ Some bytes → (key ≡ e.0) ⊎ (key ≡ e.0 → ⊥) → cond (eq_by_cmp key_cmp key e.0) (Some e.1) (find key_cmp key es) ≡ Some bytes
    behind key bytes is (inl same) = let clash : None ≡ Some bytes = sym (not_found e.0 key es same (left_of _ _ sorted)) ∙ is in absurd cc
    behind key bytes is (inr apart) = ap (λ (b : Bool). cond b (Some e.1) (find key_cmp key es)) (key_apart key e.0 apart) ∙ is

-- ---- the names of good pairs are those that the object spells

pub holds_contains : (frag : Fragment) (hash : ℕ) → holds frag hash ≡ true → Contains frag hash
holds_contains frag hash is = eqb-true ((hash % 2 ^ 24) / span frag.bits) (frag.value / span frag.bits) is

contains_holds : (frag : Fragment) (hash : ℕ) → Contains frag hash → holds frag hash ≡ true
contains_holds frag hash is = eq-eqb ((hash % 2 ^ 24) / span frag.bits) (frag.value / span frag.bits) is

all_pairs : (pairs : PairMap) → pairs_after pairs None ≡ map.entries pairs
unfolding pairs_after
all_pairs pairs = all_kept (map.entries pairs)

module _ (frag : Fragment) (pairs : PairMap) (names : Names) (good : are_good frag (pairs_after pairs None) ≡ true) (read : names ≡ added map.empty (pairs_after pairs None)) where
  abbrev es : List (List ℕ × List ℕ)
  es = map.entries pairs

  are : are_good frag es ≡ true
  are = ap (are_good frag) (sym (all_pairs pairs)) ∙ good

  at : (q : List ℕ) → map.get names q ≡ at_key (map.get pairs (entry_key q)) None
  at q =
      ap (λ (n : Names). map.get n q) (read ∙ ap (added map.empty) (all_pairs pairs)) ∙ get-added frag es map.empty q (entries_sorted pairs) are
      ∙ ap (at_key (found q es)) (get-empty key_cmp q) ∙ ap (λ (r : Option (List ℕ)). at_key r None) (sym (get-entries pairs (entry_key q)))

  said : (key bytes : List ℕ) → map.get pairs key ≡ Some bytes → Says frag key bytes
  said key bytes is = says frag (key, bytes) (good_found frag es key bytes are (sym (get-entries pairs key) ∙ is))

  reads_all : (key bytes : List ℕ) → map.get pairs key ≡ Some bytes → IsPairOf names key bytes
  reads_all key bytes is =
      let p = said key bytes is in
      record {
        name = p.name;
        inode = p.inode;
        named = p.named;
        keyed = p.keyed;
        spelled = p.spelled;
        held = at p.name ∙ ap (λ (k : List ℕ). at_key (map.get pairs k) None) (sym p.keyed) ∙ ap (λ (r : Option (List ℕ)). at_key r None) is ∙ p.record_is;
      }

  stands : (q : List ℕ) (inode : Inode) (r : Option (List ℕ)) → map.get pairs (entry_key q) ≡ r → at_key r None ≡ Some inode → (bytes : List ℕ) × (map.get pairs (entry_key q) ≡ Some bytes) × (inode_of_record bytes ≡ Some inode)
  stands q inode (Some bytes) is here = (bytes, is, here)
  stands q inode None is here = absurd cc

  where_from : (q : List ℕ) (inode : Inode) → map.get names q ≡ Some inode → (bytes : List ℕ) × (map.get pairs (entry_key q) ≡ Some bytes) × (inode_of_record bytes ≡ Some inode)
  where_from q inode is = stands q inode (map.get pairs (entry_key q)) refl (sym (at q) ∙ is)

  holds_all : (q : List ℕ) (inode : Inode) → map.get names q ≡ Some inode → HasPair pairs q inode
  holds_all q inode is =
      let w = where_from q inode is in
      let p = said (entry_key q) w.0 w.1 in
      record {
        named = subst IsName (one_name p.name q (sym p.keyed)) p.named;
        bytes = w.0;
        stands = w.1;
        spelled = spelled_as SpellsEntry inode_of_record reads_entry w.0 inode w.2;
      }

  pub names_spelled : SpellsNames pairs names
  names_spelled = record { read = reads_all; held = holds_all }

  pub names_within : AreWithin frag names
  names_within q inode is =
      let w = where_from q inode is in
      let p = said (entry_key q) w.0 w.1 in
      holds_contains frag (hash_of q) (ap (λ (n : List ℕ). holds frag (hash_of n)) (one_name q p.name p.keyed) ∙ p.within)

  pub names_entries : AreEntries names
  names_entries q inode is =
      let p = holds_all q inode is in
      record { named = p.named; recorded = spelled_recorded p.bytes inode p.spelled }

-- of an object that spells names of the fragment each pair is good
module _ (frag : Fragment) (object : Omap) (version : ℕ) (names : Names) (w : IsWhole frag object version names) where
  one_good : (key bytes : List ℕ) → map.get object.pairs key ≡ Some bytes → is_good frag (key, bytes) ≡ true
  one_good key bytes is =
      let p = w.0.pairs.read key bytes is in
      let n : name_of_key key ≡ Some p.name = read_as SpellsKey name_of_key one_key reads_key key p.name (p.named, p.keyed) in
      let r : inode_of_record bytes ≡ Some p.inode = read_as SpellsEntry inode_of_record one_entry reads_entry bytes p.inode p.spelled in
      (λ i. is_good_as frag (n i) (r i)) ∙ contains_holds frag (hash_of p.name) (w.1 p.name p.inode p.held)

  whole_good : are_good frag (pairs_after object.pairs None) ≡ true
  whole_good = ap (are_good frag) (all_pairs object.pairs) ∙ good_among frag (map.entries object.pairs) (entries_sorted object.pairs) (λ key bytes is. one_good key bytes (get-entries object.pairs key ∙ is))

-- ---- what is read of an object

pub no_header : (frag : Fragment) (object : Option Omap) → IsHeaderOf object None → Loads frag object None
no_header frag None h = tt
no_header frag (Some object) h = λ version names w. h (header_for version names) w.0.header

off_grammar : (frag : Fragment) (object : Option Omap) → ArePairNames frag object None → Loads frag object None
off_grammar frag None h = tt
off_grammar frag (Some object) (inl none) = absurd cc
off_grammar frag (Some object) (inr bad) = λ version names w. let clash : true ≡ false = sym (whole_good frag object version names w) ∙ bad in cc

pub no_names : (frag : Fragment) (object now : Option Omap) → now ≡ object → ArePairNames frag now None → Loads frag object None
no_names frag object now same h = subst (λ (o : Option Omap). Loads frag o None) same (off_grammar frag now h)

pub entries_read : (frag : Fragment) (object : Option Omap) (names : Shown (List ℕ) Inode) → ArePairNames frag object (Some names) → AreEntries (contents key_cmp names)
entries_read frag None names h = absurd cc
entries_read frag (Some object) names h = names_entries frag object.pairs (contents key_cmp names) h.1 h.2

module _ (frag : Fragment) (object : Omap) (names : Names) (header : FragHeader) (f : Cached) (spelled : SpellsHeader object.header header) (good : are_good frag (pairs_after object.pairs None) ≡ true)
    (read : names ≡ added map.empty (pairs_after object.pairs None)) (free : ℕ) (is : f ≡ record { base = Stored header.version; generation = 0; clean = names; dirty = map.empty; room = 0; places = free }) where
  counts_are : counts_of (shown_names f) ≡ counts_of names
  counts_are = ap (λ (g : Cached). counts_of (shown_names g)) is ∙ ap counts_of (only_below names map.empty refl)

  counted_whole : (loaded : Option Cached) → HasHeaderCounts f header loaded → Loads frag (Some object) loaded
  counted_whole (Some loaded) h =
      let counts : counts_of names ≡ record { files = header.files; dirs = header.dirs } = sym counts_are ∙ h.1 in
      let same : header ≡ header_for header.version names = λ i. record { version = header.version; files = (sym counts i).files; dirs = (sym counts i).dirs } in
      let now : loaded ≡ record { base = Stored header.version; generation = 0; clean = names; dirty = map.empty; room = 0; places = free } = h.0 ∙ is in
      let room : free ≡ loaded.places = sym (ap (λ (g : Cached). g.places) now) in (
        header.version,
        names,
        (record { header = subst (SpellsHeader object.header) same spelled; pairs = names_spelled frag object.pairs names good read }, names_within frag object.pairs names good read),
        now ∙ (λ i. record { base = Stored header.version; generation = 0; clean = names; dirty = map.empty; room = 0; places = room i }),
      )
  counted_whole None h = λ version other w.
      let headers : header ≡ header_for version other = one_header object.header header (header_for version other) spelled w.0.header in
      let one : other ≡ names = names_shown object.pairs other w.0.pairs ∙ sym (names_shown object.pairs names (names_spelled frag object.pairs names good read)) in
      h (counts_are ∙ ap counts_of (sym one) ∙ (λ i. record { files = (sym headers i).files; dirs = (sym headers i).dirs }))

pub loaded_is : (frag : Fragment) (object now : Option Omap) (names : Shown (List ℕ) Inode) (header : FragHeader) (f : Cached) (loaded : Option Cached) → now ≡ object → IsHeaderOf object (Some header) → ArePairNames frag now (Some names)
    → f ≡ record { base = Stored header.version; generation = 0; clean = contents key_cmp names; dirty = map.empty; room = 0; places = names.room } → HasHeaderCounts f header loaded → Loads frag object loaded
loaded_is frag None now names header f loaded same h n is counted = absurd h
loaded_is frag (Some object) now names header f loaded same h n is counted =
    let m = subst (λ (o : Option Omap). ArePairNames frag o (Some names)) same n in
    counted_whole frag object (contents key_cmp names) header f h m.1 m.2 names.room is loaded counted

-- ---- what was read of it

-- the object is there, whole
pub loaded_is_saved : (frag : Fragment) (object : Option Omap) (f : Cached) → Loads frag object (Some f) → IsSaved frag object
loaded_is_saved frag None f loads = loads
loaded_is_saved frag (Some object) f (version, names, whole, is) = (version, names, whole)

-- its names are those that the fragment shows
pub loaded_shows : (frag : Fragment) (object : Option Omap) (f : Cached) → Loads frag object (Some f) → shown_names f ≡ names_at object
loaded_shows frag None f loads = absurd loads
loaded_shows frag (Some object) f (version, names, whole, is) = ap shown_names is ∙ only_below names map.empty refl ∙ spells_what_it_shows object version names whole.0

-- and none of them is dirty
none_dirty : (frag : Fragment) (object : Option Omap) (f : Cached) → Loads frag object (Some f) → f.dirty ≡ map.empty
none_dirty frag None f loads = absurd loads
none_dirty frag (Some object) f (version, names, whole, is) = ap (λ (d : Cached). d.dirty) is

pub loaded_fits : (frag : Fragment) (object : Option Omap) (f : Cached) → Loads frag object (Some f) → map.len f.dirty ≤ f.places
loaded_fits frag object f loads = let none : map.len f.dirty ≡ 0 = ap map.len (none_dirty frag object f loads) ∙ len-empty key_cmp _ in omega (arith, none)
