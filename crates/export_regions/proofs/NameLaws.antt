-- Dirty names as they are sent: they rise, and each may be sent.
use Rattle.export_regions.proofs.Common.{AllByRecursion, AreDirtyNames, Base, Bool, Cached, Fresh, HasRecord, HasVersion, IfSome, Inode, IsDirtyName, IsWord, Leaf, List, Mark, Marks, MaySend, None, Option, SentName, Some, Stored, T, [], all_dirty, and_from, ap, arith, entries_sorted, entry_bytes, false, has_record, is_base_of, is_clean_over, is_fragment, is_name_before, is_sent_frag, is_sent_name, is_sorted, key_cmp, left_of, len-entries, length, length-map, list_all, name_decides, nat_lt, nat_tests, refl, right_of, rise, sent_from, sent_names, subst, sym, true, written_decides, ℕ, ◌&&◌, ◌<◌, ◌==◌, ◌^◌, ◌∙◌, ◌∷◌, ◌≡◌}
use Rattle.std.proofs.Common.{map as list_map}
use Rattle.std.specs.FinMap as map

abbrev Row : Type 0
Row = List ℕ × Mark

abbrev pub sent_row : Row → SentName
sent_row e = (e.0, e.1.inode)

truth : (b : Bool) → T b → b ≡ true
truth true is = refl
truth false is = absurd is

-- they rise
rise_behind : (e : Row) (es : List Row) → T (is_sorted key_cmp (e ∷ es)) → rise is_name_before (Some (sent_row e)) (list_map sent_row es) ≡ true
rise_behind e [] sorted = refl
rise_behind e (d ∷ es) sorted =
    and_from (is_name_before (sent_row e) (sent_row d)) (rise is_name_before (Some (sent_row d)) (list_map sent_row es)) (truth _ (left_of _ _ (left_of _ _ sorted))) (rise_behind d es (right_of _ _ sorted))

rise_all : (es : List Row) → T (is_sorted key_cmp es) → rise is_name_before None (list_map sent_row es) ≡ true
rise_all [] sorted = refl
rise_all (e ∷ es) sorted = rise_behind e es sorted

-- each may be sent
has_record_so : (o : Option Inode) → IfSome o HasRecord → has_record o ≡ true
has_record_so None is = refl
has_record_so (Some inode) is = (written_decides (entry_bytes inode) inode).1 is

one_sent : (e : Row) → IsDirtyName e.0 e.1 → is_sent_name (sent_row e) ≡ true
one_sent e is = and_from _ _ ((name_decides e.0).1 is.named) (has_record_so e.1.inode is.recorded)

all_sent : (es : List Row) → AllByRecursion (λ (e : Row). IsDirtyName e.0 e.1) es → list_all is_sent_name (list_map sent_row es) ≡ true
all_sent [] all = refl
all_sent (e ∷ es) all = and_from _ _ (one_sent e all.0) (all_sent es all.1)

-- as many as there are
pub how_many : (dirty : Marks) → length (sent_names dirty) ≡ map.len dirty
how_many dirty = length-map (map.entries dirty) sent_row ∙ sym (len-entries dirty)

-- the base of a fragment that isn't clean
base_so : (base : Base) (dirty : Marks) (n : ℕ) → is_clean_over base dirty ≡ false → HasVersion base → IsWord base → n ≡ map.len dirty → is_base_of base n ≡ true
base_so Fresh dirty n unclean version word same = refl
base_so (Stored v) dirty n unclean version word same = and_from _ _ some (and_from _ _ word_so names)
  where
    some : nat_lt 0 v ≡ true
    some = grind (arith, nat_tests, version)

    word_so : nat_lt v (2 ^ 64) ≡ true
    word_so = grind (arith, nat_tests, word)

    is_none : (map.len dirty == 0) ≡ false
    is_none = unclean

    go : (k : ℕ) → (k == 0) ≡ false → nat_lt 0 k ≡ true
    go k other = grind (arith, nat_tests, other)

    names : nat_lt 0 n ≡ true
    names = ap (nat_lt 0) same ∙ go (map.len dirty) is_none

-- a fragment that may be sent
pub frag_sendable : (leaf : Leaf) (f : Cached) → (nat_lt leaf.0.0 (2 ^ 64) && is_fragment leaf.1) ≡ true → IsWord f.base → AreDirtyNames f.dirty → MaySend f → is_sent_frag (sent_from leaf f) ≡ true
frag_sendable leaf f of_leaf word dirty may =
    and_from _ _ of_leaf (and_from _ _ (base_so f.base f.dirty (length (sent_names f.dirty)) may.unclean may.version word (how_many f.dirty))
    (and_from _ _ few (and_from _ _ (rise_all (map.entries f.dirty) (entries_sorted f.dirty)) (all_sent (map.entries f.dirty) (all_dirty f.dirty dirty)))))
  where
    below : map.len f.dirty < 2 ^ 32
    below = may.few

    same : length (sent_names f.dirty) ≡ map.len f.dirty
    same = how_many f.dirty

    counted : length (sent_names f.dirty) < 2 ^ 32
    counted = subst (λ (n : ℕ). n < 2 ^ 32) (sym same) below

    few : nat_lt (length (sent_names f.dirty)) (2 ^ 32) ≡ true
    few = grind (arith, nat_tests, counted)
