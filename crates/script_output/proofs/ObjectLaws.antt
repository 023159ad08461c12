-- What an object is, by its header and its pairs counted one after the other.
use Rattle.script_output.proofs.ObjectCommon.{Absent, Bool, Damaged, Err, Frag, FragHeader, Fragment, HasOneLine, HasPair, Inode, IsPairOf, List, MayTakeMemory, None, Ok, Omap, OnErr, Option, PairMap, PairPage, Result, ShowsFragment, Some, SpellsEntry, SpellsHeader, SpellsKey, SpellsNames, SpellsNoFragment, SpellsNoTree, SpellsTree, SpellsTreeObject, StatesLeaves, T, Tree, [], all_kept, ap, arith, cond, counted_header, counted_after, dirs_in, empty_of_len, entries_sorted, entry_key, inode_of_record, eq_by_cmp, false, files_in, find, flat_map, four_each, get-entries, has_one_fragment, has_one_tree_object, header_for, inl, inr, is_dir_in, is_dir_kind, is_dir_under, is_name, is_sorted, key_apart, key_cmp, key_same, leaf_bytes, left_of, len-empty, len-entries, length, ltb, map, name_decides, name_of_key, names_of_list, names_shown, nat_tests, not_found, one_entry, one_header, one_key, page_of, read_as, reads_entry, reads_key, refl, right_of, same_or_apart, shows_at_each, spelled_as, subst, sym, take, take_all, true, with_one, ℕ, ◌+◌, ◌>>=◌, ◌∙◌, ◌∷◌, ◌≡◌, ◌≤◌, ◌⊎◌}
use Rattle.std.specs.FinMap as finmap
use Rattle.objstore.specs.Omap.{pairs_after}
use Rattle.dirfrag_codec.specs.FragmentObject.{names_of_pairs}
use Rattle.script_output.proofs.CountLaws.{names_counted}

-- ---- pairs that are entries

-- the pair is the record of an entry, under its name's key
record IsEntry (key bytes : List ℕ) : Type 0 where
  name : List ℕ
  inode : Inode
  key_is : name_of_key key ≡ Some name
  record_is : inode_of_record bytes ≡ Some inode

abbrev HasKind : List ℕ → List ℕ → Type 0
HasKind key bytes = (is_dir : Bool) × (is_dir_in (key, bytes) ≡ Some is_dir)

is_entry : (key bytes : List ℕ) → HasKind key bytes → IsEntry key bytes
is_entry key bytes h = go (name_of_key key) (inode_of_record bytes) refl refl h.1
  where
    go : (n : Option (List ℕ)) (o : Option Inode) → name_of_key key ≡ n → inode_of_record bytes ≡ o → is_dir_under n o ≡ Some h.0 → IsEntry key bytes
    go (Some name) (Some inode) k r so = record { name = name; inode = inode; key_is = k; record_is = r }
    go (Some name) None k r so = absurd cc
    go None o k r so = absurd cc

-- each pair that is found among counted ones is an entry
found_counted : (es : List (List ℕ × List ℕ)) (header all : FragHeader) (key bytes : List ℕ) → counted_after header es ≡ Some all → find key_cmp key es ≡ Some bytes → HasKind key bytes
found_counted [] header all key bytes so is = absurd cc
found_counted (e ∷ es) header all key bytes so is = go (λ next more. found_counted es next all key bytes more) (is_dir_in e) refl so (same_or_apart key e.0)
  where
    go : ((next : FragHeader) → counted_after next es ≡ Some all → find key_cmp key es ≡ Some bytes → HasKind key bytes)
        → (o : Option Bool) → is_dir_in e ≡ o → (o >>= λ is_dir. counted_after (with_one header is_dir) es) ≡ Some all → (key ≡ e.0) ⊎ (key ≡ e.0 → ⊥) → HasKind key bytes
    go rest (Some is_dir) kind more (inl same) =
        let here : Some e.1 ≡ Some bytes = sym (ap (λ (b : Bool). cond b (Some e.1) (find key_cmp key es)) (key_same key e.0 same)) ∙ is in
        let value : e.1 ≡ bytes = cc in
        (is_dir, sym (λ i. is_dir_in (sym same i, value i)) ∙ kind)
    go rest (Some is_dir) kind more (inr apart) =
        rest (with_one header is_dir) more (sym (ap (λ (b : Bool). cond b (Some e.1) (find key_cmp key es)) (key_apart key e.0 apart)) ∙ is)
    go rest None kind more either = absurd cc

-- where each pair is an entry all are counted
all_counted : (es : List (List ℕ × List ℕ)) (header : FragHeader) → T (is_sorted key_cmp es) → ((key bytes : List ℕ) → find key_cmp key es ≡ Some bytes → HasKind key bytes)
    → (all : FragHeader) × (counted_after header es ≡ Some all)
all_counted [] header sorted each = (header, refl)
all_counted (e ∷ es) header sorted each =
    let first = each e.0 e.1 (ap (λ (b : Bool). cond b (Some e.1) (find key_cmp e.0 es)) (key_same e.0 e.0 refl)) in
    let rest = all_counted es (with_one header first.0) (right_of _ _ sorted) (λ key bytes is. each key bytes (behind key bytes is (same_or_apart key e.0))) in
    (rest.0, ap (λ (o : Option Bool). o >>= λ is_dir. counted_after (with_one header is_dir) es) first.1 ∙ rest.1)
  where
    behind : (key bytes : List ℕ) → find key_cmp key es ≡ Some bytes → (key ≡ e.0) ⊎ (key ≡ e.0 → ⊥) → cond (eq_by_cmp key_cmp key e.0) (Some e.1) (find key_cmp key es) ≡ Some bytes
    behind key bytes is (inl same) = let clash : None ≡ Some bytes = sym (not_found e.0 key es same (left_of _ _ sorted)) ∙ is in absurd cc
    behind key bytes is (inr apart) = ap (λ (b : Bool). cond b (Some e.1) (find key_cmp key es)) (key_apart key e.0 apart) ∙ is

-- ---- the names of an object whose pairs are entries

module _ (pairs : PairMap) (each : (key bytes : List ℕ) → finmap.get pairs key ≡ Some bytes → HasKind key bytes) where
  reads_all : (key bytes : List ℕ) → finmap.get pairs key ≡ Some bytes → IsPairOf (names_of_pairs pairs) key bytes
  reads_all key bytes is =
      let p = is_entry key bytes (each key bytes is) in
      let s = spelled_as SpellsKey name_of_key reads_key key p.name p.key_is in
      record {
        name = p.name;
        inode = p.inode;
        named = s.0;
        keyed = s.1;
        spelled = spelled_as SpellsEntry inode_of_record reads_entry bytes p.inode p.record_is;
        held = shows_at_each pairs p.name ∙ ap (λ (b : Bool). cond b (finmap.get pairs (entry_key p.name) >>= inode_of_record) None) ((name_decides p.name).1 s.0)
            ∙ ap (λ (k : List ℕ). finmap.get pairs k >>= inode_of_record) (sym s.1) ∙ ap (λ (r : Option (List ℕ)). r >>= inode_of_record) is ∙ p.record_is;
      }

  holds_all : (name : List ℕ) (inode : Inode) → finmap.get (names_of_pairs pairs) name ≡ Some inode → HasPair pairs name inode
  holds_all name inode is = go (is_name name) (finmap.get pairs (entry_key name)) refl refl (sym (shows_at_each pairs name) ∙ is)
    where
      go : (b : Bool) (r : Option (List ℕ)) → is_name name ≡ b → finmap.get pairs (entry_key name) ≡ r → cond b (r >>= inode_of_record) None ≡ Some inode → HasPair pairs name inode
      go true (Some bytes) told found so =
          record { named = (name_decides name).0 told; bytes = bytes; stands = found; spelled = spelled_as SpellsEntry inode_of_record reads_entry bytes inode so }
      go true None told found so = absurd cc
      go false r told found so = absurd cc

  names_spelled : SpellsNames pairs (names_of_pairs pairs)
  names_spelled = record { read = reads_all; held = holds_all }

-- ---- the fragment that an object is

abbrev no_entries : ℕ → FragHeader
no_entries version = record { version = version; files = 0; dirs = 0 }

-- counted pairs give the header of the names that they show
header_counted : (pairs : PairMap) (version : ℕ) (all : FragHeader) → counted_header version (finmap.entries pairs) ≡ Some all → all ≡ header_for version (names_of_pairs pairs)
unfolding names_of_pairs
header_counted pairs version all so =
    let a : 0 + files_in (names_of_list (finmap.entries pairs)) ≡ files_in (names_of_list (finmap.entries pairs)) = omega arith in
    let b : 0 + dirs_in (names_of_list (finmap.entries pairs)) ≡ dirs_in (names_of_list (finmap.entries pairs)) = omega arith in
    names_counted (finmap.entries pairs) (no_entries version) all (entries_sorted pairs) so ∙ (λ i. record { version = version; files = a i; dirs = b i })

module _ (object : Omap) (header : FragHeader) (spelled : SpellsHeader object.header header) (pairs : List (List ℕ × List ℕ)) (all : pairs ≡ finmap.entries object.pairs) where
  pub shows_fragment : (keys : List (List ℕ)) → counted_header header.version pairs ≡ Some header → keys ≡ map (λ (pair : List ℕ × List ℕ). pair.0) pairs
      → ShowsFragment object header.version header.files header.dirs keys
  shows_fragment keys so is =
      let told : counted_header header.version (finmap.entries object.pairs) ≡ Some header = ap (counted_header header.version) (sym all) ∙ so in
      let same : header ≡ header_for header.version (names_of_pairs object.pairs) = header_counted object.pairs header.version header told in
      let each : (key bytes : List ℕ) → finmap.get object.pairs key ≡ Some bytes → HasKind key bytes =
      λ key bytes found. found_counted (finmap.entries object.pairs) (no_entries header.version) header key bytes told (sym (get-entries object.pairs key) ∙ found) in
      record {
        names = names_of_pairs object.pairs;
        spelled = record { header = subst (SpellsHeader object.header) same spelled; pairs = names_spelled object.pairs each };
        files_are = ap (λ (h : FragHeader). h.files) same;
        dirs_are = ap (λ (h : FragHeader). h.dirs) same;
        keys_are = is ∙ ap (map (λ (pair : List ℕ × List ℕ). pair.0)) all;
      }

  pub shows_none : (counted_header header.version pairs ≡ Some header → ⊥) → SpellsNoFragment object
  shows_none other version names w =
      let each : (key bytes : List ℕ) → find key_cmp key (finmap.entries object.pairs) ≡ Some bytes → HasKind key bytes =
      λ key bytes found. has_kind key bytes (w.pairs.read key bytes (get-entries object.pairs key ∙ found)) in
      let told = all_counted (finmap.entries object.pairs) (no_entries header.version) (entries_sorted object.pairs) each in
      let headers : header ≡ header_for version names = one_header object.header header (header_for version names) spelled w.header in
      let shown : names ≡ names_of_pairs object.pairs = names_shown object.pairs names w.pairs in
      let same : told.0 ≡ header =
      header_counted object.pairs header.version told.0 told.1 ∙ ap (λ (h : FragHeader). header_for h.version (names_of_pairs object.pairs)) headers ∙ ap (header_for version) (sym shown) ∙ sym headers in
      other (ap (counted_header header.version) all ∙ told.1 ∙ ap (λ (h : FragHeader). Some h) same)
    where
      has_kind : (key bytes : List ℕ) → IsPairOf names key bytes → HasKind key bytes
      has_kind key bytes p =
          let n : name_of_key key ≡ Some p.name = read_as SpellsKey name_of_key one_key reads_key key p.name (p.named, p.keyed) in
          let r : inode_of_record bytes ≡ Some p.inode = read_as SpellsEntry inode_of_record one_entry reads_entry bytes p.inode p.spelled in
          (is_dir_kind p.inode.kind, λ i. is_dir_under (n i) (r i))

pub no_header : (object : Omap) (bytes : List ℕ) → bytes ≡ object.header → ((header : FragHeader) → SpellsHeader bytes header → ⊥) → SpellsNoFragment object
no_header object bytes is none version names w = none (header_for version names) (subst (λ (b : List ℕ). SpellsHeader b (header_for version names)) (sym is) w.header)

-- a page as long as an object has pairs
pub all_of_page : (pairs : PairMap) (page : PairPage) (count max : ℕ) → page ≡ page_of pairs None max → count ≡ finmap.len pairs → count ≤ max → page.pairs ≡ finmap.entries pairs
unfolding pairs_after
all_of_page pairs page count max is all enough =
    ap (λ (p : PairPage). p.pairs) is ∙ ap (take max) (all_kept (finmap.entries pairs)) ∙ take_all max (finmap.entries pairs) (omega (arith, all, enough, len-entries pairs))

-- ---- the tree that an object is

pub tree_states : (bytes : List ℕ) (leaves : List Fragment) → SpellsTree bytes leaves → StatesLeaves bytes
tree_states bytes leaves s = record { count = length leaves; words = flat_map leaf_bytes leaves; several = s.several; whole = four_each leaves; spelled = s.spelled }

pub memory_taken : {A E : Type 0} (r : Result A E) (object : Omap) (bytes : List ℕ) (leaves : List Fragment) → bytes ≡ object.header → SpellsTree bytes leaves → OnErr r (MayTakeMemory (Some object))
memory_taken (Ok x) object bytes leaves is s = tt
memory_taken (Err e) object bytes leaves is s = inr (subst StatesLeaves is (tree_states bytes leaves s))

not_positive : (n : ℕ) → ltb 0 n ≡ false → n ≡ 0
not_positive n e = grind (arith, nat_tests)

pub shows_tree : (object : Omap) (bytes : List ℕ) (leaves shown : List Fragment) → bytes ≡ object.header → ltb 0 (finmap.len object.pairs) ≡ false → SpellsTree bytes leaves → shown ≡ leaves → SpellsTreeObject object shown
shows_tree object bytes leaves shown is none s same =
    record {
      header = subst (SpellsTree object.header) (sym same) (subst (λ (b : List ℕ). SpellsTree b leaves) is s);
      pairs = empty_of_len object.pairs (not_positive (finmap.len object.pairs) none);
    }

pub pairs_left : (object : Omap) → ltb 0 (finmap.len object.pairs) ≡ true → SpellsNoTree object
pairs_left object some leaves s =
    let none : finmap.len object.pairs ≡ 0 = ap (finmap.len {K = List ℕ} {X = List ℕ} {R = key_cmp}) s.pairs ∙ len-empty key_cmp (List ℕ) in
    let clash : true ≡ false = sym some ∙ ap (ltb 0) none in
    cc

-- ---- an object has one line

first_same : (a b : ℕ) (x y : List ℕ) → a ∷ x ≡ b ∷ y → a ≡ b
first_same a b x y e = cc

no_both : (bytes : List ℕ) (header : FragHeader) (leaves : List Fragment) → SpellsHeader bytes header → SpellsTree bytes leaves → ⊥
no_both bytes header leaves s t = let clash : 70 ≡ 84 = first_same 70 84 _ _ (sym s.spelled ∙ t.spelled) in omega (arith, clash)

pub one_line : HasOneLine
one_line None a b s t = s ∙ sym t
one_line (Some object) (Frag v f d k) (Frag w g e l) s t =
    let same = has_one_fragment object v w s.names t.names s.spelled t.spelled in
    let files : f ≡ g = s.files_are ∙ ap files_in same.1 ∙ sym t.files_are in
    let dirs : d ≡ e = s.dirs_are ∙ ap dirs_in same.1 ∙ sym t.dirs_are in
    let keys : k ≡ l = s.keys_are ∙ sym t.keys_are in
    λ i. Frag (same.0 i) (files i) (dirs i) (keys i)
one_line (Some object) (Frag v f d k) (Tree leaves) s t = absurd (no_both object.header _ leaves s.spelled.header t.header)
one_line (Some object) (Frag v f d k) Absent s t = absurd t
one_line (Some object) (Frag v f d k) Damaged s t = absurd (t.0 v s.names s.spelled)
one_line (Some object) (Tree leaves) (Frag v f d k) s t = absurd (no_both object.header _ leaves t.spelled.header s.header)
one_line (Some object) (Tree leaves) (Tree others) s t = ap (λ (l : List Fragment). Tree l) (has_one_tree_object object leaves others s t)
one_line (Some object) (Tree leaves) Absent s t = absurd t
one_line (Some object) (Tree leaves) Damaged s t = absurd (t.1 leaves s)
one_line (Some object) Absent b s t = absurd s
one_line (Some object) Damaged (Frag v f d k) s t = absurd (s.0 v t.names t.spelled)
one_line (Some object) Damaged (Tree leaves) s t = absurd (s.1 leaves t)
one_line (Some object) Damaged Absent s t = absurd t
one_line (Some object) Damaged Damaged s t = refl
