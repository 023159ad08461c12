-- An object spells at most one fragment, whose names are those that its pairs show.
use Rattle.std.proofs.Common.{◌≡◌, ℕ, Bool, true, false, cond, ◌⊎◌, List, [], ◌∷◌, Option, Some, None, refl, sym, ap, subst, ◌∙◌, inl, inr}
use Rattle.std.specs.Prelude.{T}
use Rattle.std.specs.Ordering.{eq_by_cmp}
use Rattle.std.specs.FinMap as map
use Rattle.std.specs.FinMap.{find, is_sorted, entries_sorted, get-empty, get-entries}
use Rattle.sorted_map.proofs.Bools.{left_of, right_of}
use Rattle.mds_types.specs.Name.{IsName}
use Rattle.mds_types.specs.declared.inodes.Inode.{Inode}
use Rattle.objstore.specs.EntryKeys.{entry_key}
use Rattle.objstore.specs.Omap.{PairMap, key_cmp}
use Rattle.dirfrag_codec.specs.declared.headers.FragHeader.{FragHeader}
use Rattle.dirfrag_codec.specs.EntryRecord.{SpellsEntry}
use Rattle.dirfrag_codec.specs.FragmentObject.{HasOneFragment, HasOneTree, Names, ShowsAtEach, SpellsKey, SpellsNames, SpellsWhatItShows, header_for, names_of_list, names_of_pairs, pair_shown_at, with_pair}
use Rattle.dirfrag_codec.specs.Reading.{◌>>=◌}
use Rattle.dirfrag_codec.specs.Values.{inode_of_record, is_name, name_of_key, front_of}
use Rattle.dirfrag_codec.proofs.ByteKeys.{get_beside, get_put, key_apart, key_same, key_tied, not_found, one_map, same_or_apart}
use Rattle.dirfrag_codec.proofs.HeaderLaws.{one_header}
use Rattle.dirfrag_codec.proofs.RecordLaws.{one_entry}
use Rattle.dirfrag_codec.proofs.TreeLaws.{one_tree}
use Rattle.dirfrag_codec.proofs.ValueLaws.{front_again, name_decides, one_key, read_as, reads_entry, reads_key, spelled_as}

-- two names with one key are one
pub one_name : (p q : List ℕ) → entry_key p ≡ entry_key q → p ≡ q
one_name p q e = sym (front_again p) ∙ ap front_of e ∙ front_again q

clash : {A P : Type 0} (x : A) → None ≡ Some x → P
clash x e = absurd cc

-- a pair more, where what is behind it is shown
module _ (names : Names) (key bytes name : List ℕ) (later : Option (List ℕ)) where
  abbrev among : Bool → Option Inode
  among b = cond (is_name name) (cond b (Some bytes) later >>= inode_of_record) None

  beside : (n : List ℕ) (value : Option Inode) → (name ≡ n → ⊥) → map.get (with_pair names (Some n) value) name ≡ map.get names name
  beside n (Some inode) apart = get_beside names n inode name apart
  beside n None apart = refl

  here : (n : List ℕ) (value : Option Inode) → name ≡ n → map.get names name ≡ None → map.get (with_pair names (Some n) value) name ≡ value
  here n (Some inode) same before = ap (λ (q : List ℕ). map.get (map.insert names n inode) q) same ∙ get_put names n inode
  here n None same before = before

  one_pair : (eq_by_cmp key_cmp (entry_key name) key ≡ true → later ≡ None) → map.get names name ≡ among false
      → map.get (with_pair names (name_of_key key) (inode_of_record bytes)) name ≡ among (eq_by_cmp key_cmp (entry_key name) key)
  one_pair none so_far = go (name_of_key key) refl
    where
      at_name : (n : List ℕ) → SpellsKey key n → (name ≡ n) ⊎ (name ≡ n → ⊥) → map.get (with_pair names (Some n) (inode_of_record bytes)) name ≡ among (eq_by_cmp key_cmp (entry_key name) key)
      at_name n s (inl same) =
          let keyed : entry_key name ≡ key = ap entry_key same ∙ sym s.1 in
          let tied : eq_by_cmp key_cmp (entry_key name) key ≡ true = key_same (entry_key name) key keyed in
          let named : is_name name ≡ true = (name_decides name).1 (subst IsName (sym same) s.0) in
          let before : map.get names name ≡ None = so_far ∙ ap (λ (b : Bool). cond b (later >>= inode_of_record) None) named ∙ ap (λ (r : Option (List ℕ)). r >>= inode_of_record) (none tied) in
          here n (inode_of_record bytes) same before ∙ sym (ap (λ (b : Bool). cond b (Some bytes >>= inode_of_record) None) named) ∙ sym (ap among tied)
      at_name n s (inr apart) =
          let other : eq_by_cmp key_cmp (entry_key name) key ≡ false = key_apart (entry_key name) key (λ e. apart (one_name name n (e ∙ s.1))) in
          beside n (inode_of_record bytes) apart ∙ so_far ∙ sym (ap among other)

      off : (b : Bool) → is_name name ≡ b → name_of_key key ≡ None → cond b (later >>= inode_of_record) None ≡ cond b (cond (eq_by_cmp key_cmp (entry_key name) key) (Some bytes) later >>= inode_of_record) None
      off false told is = refl
      off true told is =
          let other : eq_by_cmp key_cmp (entry_key name) key ≡ false = key_apart (entry_key name) key
          (λ e. clash name (sym is ∙ read_as SpellsKey name_of_key one_key reads_key key name ((name_decides name).0 told, sym e))) in
          sym (ap (λ (b : Bool). cond b (Some bytes) later >>= inode_of_record) other)

      go : (k : Option (List ℕ)) → name_of_key key ≡ k → map.get (with_pair names k (inode_of_record bytes)) name ≡ among (eq_by_cmp key_cmp (entry_key name) key)
      go (Some n) is = at_name n (spelled_as SpellsKey name_of_key reads_key key n is) (same_or_apart name n)
      go None is = so_far ∙ off (is_name name) refl is

nothing_shown : (b : Bool) → None ≡ cond b (None >>= inode_of_record) None
nothing_shown true = refl
nothing_shown false = refl

shown_in : (pairs : List (List ℕ × List ℕ)) (name : List ℕ) → T (is_sorted key_cmp pairs) → map.get (names_of_list pairs) name ≡ cond (is_name name) (find key_cmp (entry_key name) pairs >>= inode_of_record) None
shown_in [] name sorted = get-empty key_cmp name ∙ nothing_shown (is_name name)
shown_in (pair ∷ pairs) name sorted =
    one_pair (names_of_list pairs) pair.0 pair.1 name (find key_cmp (entry_key name) pairs)
    (λ tied. not_found pair.0 (entry_key name) pairs (key_tied (entry_key name) pair.0 tied) (left_of _ _ sorted)) (shown_in pairs name (right_of _ _ sorted))

pub shows_at_each : ShowsAtEach
unfolding names_of_pairs
shows_at_each pairs name =
    shown_in (map.entries pairs) name (entries_sorted pairs) ∙ ap (λ (r : Option (List ℕ)). cond (is_name name) (r >>= inode_of_record) None) (sym (get-entries pairs (entry_key name)))

-- names that are spelled are those that are shown
module _ (pairs : PairMap) (names : Names) (s : SpellsNames pairs names) (name : List ℕ) where
  held_shown : (inode : Inode) → map.get names name ≡ Some inode → Some inode ≡ pair_shown_at pairs name
  held_shown inode is =
      let p = s.held name inode is in
      sym (ap (λ (b : Bool). cond b (map.get pairs (entry_key name) >>= inode_of_record) None) ((name_decides name).1 p.named)
      ∙ ap (λ (r : Option (List ℕ)). r >>= inode_of_record) p.stands ∙ read_as SpellsEntry inode_of_record one_entry reads_entry p.bytes inode p.spelled)

  not_held : (r : Option (List ℕ)) → map.get pairs (entry_key name) ≡ r → map.get names name ≡ None → None ≡ (r >>= inode_of_record)
  not_held None found none = refl
  not_held (Some bytes) found none =
      let p = s.read (entry_key name) bytes found in
      clash p.inode (sym none ∙ ap (λ (q : List ℕ). map.get names q) (one_name name p.name p.keyed) ∙ p.held)

  absent_shown : (b : Bool) → map.get names name ≡ None → None ≡ cond b (map.get pairs (entry_key name) >>= inode_of_record) None
  absent_shown true none = not_held (map.get pairs (entry_key name)) refl none
  absent_shown false none = refl

  spelled_shown : (r : Option Inode) → map.get names name ≡ r → r ≡ pair_shown_at pairs name
  spelled_shown (Some inode) is = held_shown inode is
  spelled_shown None is = absent_shown (is_name name) is

pub names_shown : (pairs : PairMap) (names : Names) → SpellsNames pairs names → names ≡ names_of_pairs pairs
names_shown pairs names s = one_map names (names_of_pairs pairs) (λ name. spelled_shown pairs names s name (map.get names name) refl ∙ sym (shows_at_each pairs name))

pub spells_what_it_shows : SpellsWhatItShows
spells_what_it_shows object version names s = names_shown object.pairs names s.pairs

pub has_one_fragment : HasOneFragment
has_one_fragment object v w a b s t =
    let headers : header_for v a ≡ header_for w b = one_header object.header (header_for v a) (header_for w b) s.header t.header in
    (ap (λ (h : FragHeader). h.version) headers, names_shown object.pairs a s.pairs ∙ sym (names_shown object.pairs b t.pairs))

pub has_one_tree_object : HasOneTree
has_one_tree_object object a b s t = one_tree object.header a b s.header t.header
