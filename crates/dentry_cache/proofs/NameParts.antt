-- The names that a fragment contains, and the children of a fragment.
use Rattle.std.proofs.Common.{◌≡◌, ℕ, zero, suc, ◌+◌, ◌-◌, ◌*◌, ◌/◌, ◌%◌, ◌^◌, ◌<◌, ◌≤◌, Bool, true, false, cond, ◌⊎◌, inl, inr, List, length, filter, Option, Some, None, refl, sym, ap, ◌∙◌, arith}
use Rattle.std.specs.Prelude.{is_some, ◌==◌}
use Rattle.std.specs.Cmp.Lexicographic.{nat_list_cmp_total}
use Rattle.std.specs.FinMap as map
use Rattle.std.specs.FinMap.{empty_of_len, entries-from_sorted, entries_sorted, get-empty, get-retain_keys, len-remove, same_entries_map}
use Rattle.std.specs.FinMap.Entries.{where_key}
use Rattle.std.proofs.lemmas.Bool.Decides.{nat_tests}
use Rattle.std.proofs.lemmas.Map.Lookups.{exact_bytes}
use Rattle.std.proofs.lemmas.Nat.{pow-add, pow_pos}
use Rattle.std.proofs.Math.Nat.{add-mul-div_right, div-div-eq-div-mul, div-mul-le_self, lt-div-mul-add, mod-eq-sub-div-mul, mul-div_cancel, mul_assoc, mul_comm}
use Rattle.std.proofs.lemmas.Bool.{eq-eqb, ne_eqb}
use Rattle.sorted_map.proofs.ContentLaws.{len_shown, retained}
use Rattle.mds_types.specs.Frag.{Contains, Fragment, IsFragment, child_of, span}
use Rattle.mds_types.specs.declared.ids.Ino.{Ino}
use Rattle.mds_types.specs.declared.inodes.Inode.{Inode}
use Rattle.namehash.specs.Rjenkins.{hash_of}
use Rattle.objstore.specs.Omap.{key_cmp}
use Rattle.dirfrag_codec.specs.FragmentObject.{Names}
use Rattle.dirfrag_codec.proofs.ByteKeys.{get_left, get_removed, one_map, same_or_apart}
use Rattle.dentry_cache.specs.Pairs.{holds}
use Rattle.dentry_cache.proofs.LoadLaws.{holds_contains}
use Rattle.dentry_cache.specs.Divided.{ChildrenHaveTheirOwn, NamesAreDivided, names_in}
use Rattle.dentry_cache.specs.Cache.{Leaf, leaf_is}
use Rattle.dentry_cache.proofs.LeafLaws.{leaf_or_apart}

-- ---- the names that a fragment contains

pub get-names_in : (frag : Fragment) (names : Names) (q : List ℕ) → map.get (names_in frag names) q ≡ cond (holds frag (hash_of q)) (map.get names q) None
unfolding names_in
get-names_in frag names q = get-retain_keys names (λ (name : List ℕ). holds frag (hash_of name)) q (λ x tied. ap (λ (n : List ℕ). holds frag (hash_of n)) (sym (exact_bytes q x tied)))

pub none_either : (b : Bool) → cond {A = Option Inode} b None None ≡ None
none_either true = refl
none_either false = refl

-- a name less
pub removed_in : (frag : Fragment) (names : Names) (name : List ℕ) → names_in frag (map.remove names name) ≡ map.remove (names_in frag names) name
removed_in frag names name = one_map _ _ (λ q. get-names_in frag (map.remove names name) q ∙ go q (same_or_apart q name))
  where
    go : (q : List ℕ) → (q ≡ name) ⊎ (q ≡ name → ⊥) → cond (holds frag (hash_of q)) (map.get (map.remove names name) q) None ≡ map.get (map.remove (names_in frag names) name) q
    go q (inl is) =
        let gone : map.get (map.remove names name) q ≡ None = ap (λ (k : List ℕ). map.get (map.remove names name) k) is ∙ get_removed names name in
        let here : map.get (map.remove (names_in frag names) name) q ≡ None = ap (λ (k : List ℕ). map.get (map.remove (names_in frag names) name) k) is ∙ get_removed (names_in frag names) name in
        ap (λ (o : Option Inode). cond (holds frag (hash_of q)) o None) gone ∙ none_either (holds frag (hash_of q)) ∙ sym here
    go q (inr apart) = ap (λ (o : Option Inode). cond (holds frag (hash_of q)) o None) (get_left names name q apart) ∙ sym (get-names_in frag names q) ∙ sym (get_left (names_in frag names) name q apart)

pub held_in : (frag : Fragment) (names : Names) (name : List ℕ) → holds frag (hash_of name) ≡ true → map.get (names_in frag names) name ≡ map.get names name
held_in frag names name is = get-names_in frag names name ∙ ap (λ (b : Bool). cond b (map.get names name) None) is

pub not_in : (frag : Fragment) (names : Names) (name : List ℕ) → holds frag (hash_of name) ≡ false → map.get (names_in frag names) name ≡ None
not_in frag names name is = get-names_in frag names name ∙ ap (λ (b : Bool). cond b (map.get names name) None) is

-- one that the fragment doesn't contain
pub removed_beside : (frag : Fragment) (names : Names) (name : List ℕ) → holds frag (hash_of name) ≡ false → names_in frag (map.remove names name) ≡ names_in frag names
removed_beside frag names name is = one_map _ _ (λ q. ap (λ (m : Names). map.get m q) (removed_in frag names name) ∙ go q (same_or_apart q name))
  where
    go : (q : List ℕ) → (q ≡ name) ⊎ (q ≡ name → ⊥) → map.get (map.remove (names_in frag names) name) q ≡ map.get (names_in frag names) q
    go q (inl same) =
        ap (λ (k : List ℕ). map.get (map.remove (names_in frag names) name) k) same ∙ get_removed (names_in frag names) name ∙ sym (ap (λ (k : List ℕ). map.get (names_in frag names) k) same ∙ not_in frag names name is)
    go q (inr apart) = get_left (names_in frag names) name q apart

pub empty_in : (frag : Fragment) (names : Names) → ((q : List ℕ) → map.get names q ≡ None) → (q : List ℕ) → map.get (names_in frag names) q ≡ None
empty_in frag names none q = get-names_in frag names q ∙ ap (λ (o : Option Inode). cond (holds frag (hash_of q)) o None) (none q) ∙ none_either (holds frag (hash_of q))

-- ---- how many they are

some_names : (names : Names) (name : List ℕ) (inode : Inode) → map.get names name ≡ Some inode → (n : ℕ) → map.len names ≡ n → 0 < n
some_names names name inode found zero is =
    let clash : None ≡ Some inode = sym (ap (λ (m : Names). map.get m name) (empty_of_len names is) ∙ get-empty key_cmp name) ∙ found in
    absurd cc
some_names names name inode found (suc n) is = omega arith

pub len_removed : (names : Names) (name : List ℕ) (inode : Inode) → map.get names name ≡ Some inode → map.len (map.remove names name) + 1 ≡ map.len names
len_removed names name inode found =
    let less : map.len (map.remove names name) ≡ map.len names - 1 = len-remove nat_list_cmp_total names name ∙ ap (λ (o : Option Inode). cond {A = ℕ} (is_some o) (map.len names - 1) (map.len names)) found in
    let some : 0 < map.len names = some_names names name inode found (map.len names) refl in
    omega (arith, less, some)

pub len_in : (frag : Fragment) (names : Names) → map.len (names_in frag names) ≡ length (filter (λ (row : List ℕ × Inode). holds frag (hash_of row.0)) (map.entries names))
unfolding names_in
len_in frag names =
    let p : List ℕ → Bool = λ name. holds frag (hash_of name) in
    let kept : List (List ℕ × Inode) = where_key key_cmp p (map.entries names) in
    let both = retained nat_list_cmp_total exact_bytes p (map.entries names) kept (entries_sorted names) refl in
    let whole : map.from_sorted {R = key_cmp} (map.entries names) ≡ names = same_entries_map _ _ (entries-from_sorted key_cmp (map.entries names) (entries_sorted names)) in
    ap (λ (m : Names). map.len (map.retain_keys m p)) (sym whole) ∙ ap (λ (m : Names). map.len m) (sym both.1) ∙ sym (len_shown key_cmp kept both.0)

-- ---- children

pub holds_child : (frag : Fragment) (nb i hash : ℕ) → holds (child_of frag i nb) hash ≡ (((hash % 2 ^ 24) / span (frag.bits + nb)) == (frag.value / span (frag.bits + nb) + i))
holds_child frag nb i hash = ap (λ (v : ℕ). ((hash % 2 ^ 24) / span (frag.bits + nb)) == v) (add-mul-div_right frag.value i (pow_pos (24 - (frag.bits + nb))))

pub place_there : (part value i place : ℕ) → value ≤ part → place ≡ part - value → (part == (value + i)) ≡ (i == place)
place_there part value i place below is = grind (arith, nat_tests, below, is)

pub place_below : (part value i : ℕ) → (value ≤ part → ⊥) → (part == (value + i)) ≡ false
place_below part value i below = grind (arith, nat_tests, below)

pub child_place : (frag : Fragment) (nb hash word value size place : ℕ) → word ≡ hash → value ≡ frag.value → size ≡ span (frag.bits + nb) → value / size ≤ word % 2 ^ 24 / size → place ≡ word % 2 ^ 24 / size - value / size
    → (i : ℕ) → holds (child_of frag i nb) hash ≡ (i == place)
child_place frag nb hash word value size place is_hash is_value is_size below is i =
    holds_child frag nb i hash ∙ sym (λ j. ((is_hash j % 2 ^ 24) / is_size j) == (is_value j / is_size j + i)) ∙ place_there (word % 2 ^ 24 / size) (value / size) i place below is

pub no_place : (frag : Fragment) (nb hash word value size : ℕ) → word ≡ hash → value ≡ frag.value → size ≡ span (frag.bits + nb) → (value / size ≤ word % 2 ^ 24 / size → ⊥) → (i : ℕ) → holds (child_of frag i nb) hash ≡ false
no_place frag nb hash word value size is_hash is_value is_size below i =
    holds_child frag nb i hash ∙ sym (λ j. ((is_hash j % 2 ^ 24) / is_size j) == (is_value j / is_size j + i)) ∙ place_below (word % 2 ^ 24 / size) (value / size) i below

-- no two of them are one leaf
pub one_child : (dir : Ino) (frag : Fragment) (nb i j : ℕ) → (i ≡ j → ⊥) → leaf_is (dir, child_of frag i nb) (dir, child_of frag j nb) ≡ false
one_child dir frag nb i j apart = go (leaf_or_apart (dir, child_of frag i nb) (dir, child_of frag j nb))
  where
    s : ℕ
    s = span (frag.bits + nb)

    go : ◌≡◌ {A = Leaf} (dir, child_of frag i nb) (dir, child_of frag j nb) ⊎ (leaf_is (dir, child_of frag i nb) (dir, child_of frag j nb) ≡ false) → leaf_is (dir, child_of frag i nb) (dir, child_of frag j nb) ≡ false
    go (inl same) =
        let values : frag.value + i * s ≡ frag.value + j * s = ap (λ (l : Leaf). l.1.value) same in
        let spans : i * s ≡ j * s = omega (arith, values) in
        absurd (apart (sym (mul-div_cancel i (pow_pos (24 - (frag.bits + nb)))) ∙ ap (λ (n : ℕ). n / s) spans ∙ mul-div_cancel j (pow_pos (24 - (frag.bits + nb)))))
    go (inr is) = is

-- and none is the fragment itself
pub no_child : (dir : Ino) (frag : Fragment) (nb i : ℕ) → 1 ≤ nb → leaf_is (dir, frag) (dir, child_of frag i nb) ≡ false
no_child dir frag nb i some = go (leaf_or_apart (dir, frag) (dir, child_of frag i nb))
  where
    go : ◌≡◌ {A = Leaf} (dir, frag) (dir, child_of frag i nb) ⊎ (leaf_is (dir, frag) (dir, child_of frag i nb) ≡ false) → leaf_is (dir, frag) (dir, child_of frag i nb) ≡ false
    go (inl same) =
        let bits : frag.bits ≡ frag.bits + nb = ap (λ (l : Leaf). l.1.bits) same in
        absurd (omega (arith, bits, some))
    go (inr is) = is

-- ---- each name is in one child

module _ (frag : Fragment) (nb hash : ℕ) (valid : IsFragment frag) (fits : frag.bits + nb ≤ 24) (within : Contains frag hash) where
  abbrev pub size : ℕ
  size = span (frag.bits + nb)

  abbrev pub part : ℕ
  part = (hash % 2 ^ 24) / size

  abbrev pub first : ℕ
  first = frag.value / size

  spans : size * 2 ^ nb ≡ span frag.bits
  spans =
      let sum : 24 - frag.bits ≡ (24 - (frag.bits + nb)) + nb = omega (arith, fits) in
      sym (ap (λ (n : ℕ). 2 ^ n) sum ∙ pow-add 2 (24 - (frag.bits + nb)) nb)

  quotient : (n : ℕ) → n / size / 2 ^ nb ≡ n / span frag.bits
  quotient n = div-div-eq-div-mul n size (2 ^ nb) ∙ ap (λ (s : ℕ). n / s) spans

  whole : frag.value ≡ (frag.value / span frag.bits) * span frag.bits
  whole =
      let rest : frag.value % span frag.bits ≡ frag.value - (frag.value / span frag.bits) * span frag.bits = mod-eq-sub-div-mul frag.value (span frag.bits) in
      let most : (frag.value / span frag.bits) * span frag.bits ≤ frag.value = div-mul-le_self frag.value (span frag.bits) in
      let none : frag.value % span frag.bits ≡ 0 = valid.justified in
      omega (arith, rest, most, none)

  abbrev pub q : ℕ
  q = frag.value / span frag.bits

  first_is : first ≡ q * 2 ^ nb
  first_is =
      let product : q * span frag.bits ≡ q * 2 ^ nb * size = ap (λ (s : ℕ). q * s) (sym spans) ∙ ap (λ (n : ℕ). q * n) (mul_comm size (2 ^ nb)) ∙ sym (mul_assoc q (2 ^ nb) size) in
      ap (λ (n : ℕ). n / size) (whole ∙ product) ∙ mul-div_cancel (q * 2 ^ nb) (pow_pos (24 - (frag.bits + nb)))

  part_is : part / 2 ^ nb ≡ q
  part_is = quotient (hash % 2 ^ 24) ∙ within

  low : first ≤ part
  low =
      let most : (part / 2 ^ nb) * 2 ^ nb ≤ part = div-mul-le_self part (2 ^ nb) in
      let same : (part / 2 ^ nb) * 2 ^ nb ≡ first = ap (λ (n : ℕ). n * 2 ^ nb) part_is ∙ sym first_is in
      omega (arith, most, same)

  high : part < first + 2 ^ nb
  high =
      let most : part < (part / 2 ^ nb) * 2 ^ nb + 2 ^ nb = lt-div-mul-add (pow_pos nb) in
      let same : (part / 2 ^ nb) * 2 ^ nb ≡ first = ap (λ (n : ℕ). n * 2 ^ nb) part_is ∙ sym first_is in
      omega (arith, most, same)

  pub picked : part - first < 2 ^ nb
  picked = omega (arith, low, high)

  pub picks : (i : ℕ) → holds (child_of frag i nb) hash ≡ (i == (part - first))
  picks i = holds_child frag nb i hash ∙ place_there part first i (part - first) low refl

pub names_are_divided : NamesAreDivided
names_are_divided frag nb names valid fits within name inode found =
    let hash : ℕ = hash_of name in
    let place : ℕ = (hash % 2 ^ 24) / span (frag.bits + nb) - frag.value / span (frag.bits + nb) in
    let inside : Contains frag hash = within name inode found in
    record {
      place = place;
      among = picked frag nb hash valid fits inside;
      has = held_in (child_of frag place nb) names name (picks frag nb hash valid fits inside place ∙ eq-eqb place place refl) ∙ found;
      alone = λ other apart. not_in (child_of frag other nb) names name (picks frag nb hash valid fits inside other ∙ ne_eqb other place apart);
    }

pub children_have_their_own : ChildrenHaveTheirOwn
children_have_their_own child names name inode found = go (holds child (hash_of name)) refl (sym (get-names_in child names name) ∙ found)
  where
    go : (b : Bool) → holds child (hash_of name) ≡ b → cond b (map.get names name) None ≡ Some inode → (map.get names name ≡ Some inode) × Contains child (hash_of name)
    go true is got = (got, holds_contains child (hash_of name) is)
    go false is got = let clash : None ≡ Some inode = got in absurd cc
