-- The functions that read give a value exactly where the bytes spell it.
use Rattle.std.proofs.Common.{◌≡◌, ◌⊎◌, inl, inr, ℕ, ◌+◌, ◌-◌, ◌/◌, ◌%◌, ◌^◌, ◌≤◌, Bool, true, false, ◌&&◌, ◌||◌, cond, not, eqb, ltb, leb, List, [], ◌∷◌, ◌++◌, length, drop, Option, Some, None, refl, sym, ap, subst, ◌∙◌, arith}
use Rattle.std.proofs.lemmas.Bool.Decides.{nat_tests, Decides-and, Decides-like, Decides-eqb, Decides-ltb}
use Rattle.std.proofs.lemmas.List.{take_at, drop_at, length-append}
use Rattle.std.proofs.lemmas.List.Concat.{flat_map-cons}
use Rattle.std.proofs.lemmas.Slice.Eq.{bytes_eq-Decides}
use Rattle.std.proofs.lemmas.Option.{none-some, same_Some}
use Rattle.std.proofs.lemmas.Bool.{not-true}
use Rattle.std.specs.Bool.{Decides}
use Rattle.std.specs.List.{flat_map, list_all, AllByRecursion}
use Rattle.std.specs.Prelude.{Result, Ok, Err, IfOk, codes}
use Rattle.std.specs.Str.{bytes_eq}
use Rattle.byteorder.specs.Endian.{little_number}
use Rattle.byteorder.specs.Numbers.{length-bytes_low_first, little_number-reads_back}
use Rattle.mds_types.specs.Frag.{Fragment, IsFragment, word_of, span}
use Rattle.mds_types.specs.Name.{IsName, IsTarget, fits_name, fits_target, is_dots}
use Rattle.mds_types.specs.Tree.{HasPinOf, HasSize}
use Rattle.mds_types.specs.declared.ids.Rank.{Rank}
use Rattle.mds_types.specs.declared.inodes.Inode.{Inode}
use Rattle.mds_types.specs.declared.inodes.Kind.{Kind}
use Rattle.mds_types.specs.declared.inodes.Kind.TheVariants.{File, Dir, Symlink}
use Rattle.fragtree.specs.FragTree.{Tiles}
use Rattle.objstore.specs.EntryKeys.{entry_key}
use Rattle.dirfrag_codec.specs.declared.headers.FragHeader.{FragHeader}
use Rattle.dirfrag_codec.specs.EntryRecord.{HasTarget, IsRecordable, IsRecordV1, IsRecordV2, SpellsEntry, WritesEntry, kind_byte, pin_byte, record_v1, record_v2, target_bytes}
use Rattle.dirfrag_codec.specs.FragHeader.{SpellsHeader, header_bytes}
use Rattle.dirfrag_codec.specs.FragmentObject.{SpellsKey}
use Rattle.dirfrag_codec.specs.Grammar.{Decodes, HasOneMeaning, IsReaderOf}
use Rattle.dirfrag_codec.specs.Reading.{◌>>=◌, RecordFields, fields_of_inode, header_read_at, inode_with, pin_of_byte}
use Rattle.dirfrag_codec.specs.TreeObject.{SpellsTree, leaf_bytes, tree_bytes}
use Rattle.dirfrag_codec.specs.Values.{all_leaves_at, allows, do_tile, inode_of_record, word_fragment, front_of, may_have_pin, has_size, has_target, header_of, inode_at, is_fragment, is_header, is_name, is_record_v1, is_record_v2, spells_tree, is_written, kind_of, leaves_of_numbers, name_of_key, tree_of_bytes, written_of}
use Rattle.dirfrag_codec.proofs.HeaderLaws.{header_again}
use Rattle.dirfrag_codec.proofs.RecordLaws.{allowed, fields_of_record, number_decides, plain_decides, widths_decides}
use Rattle.dirfrag_codec.proofs.TreeLaws.{four_each, fragments_of, words_of_tree, word_low}

-- what is read first and then asked for is read exactly, where each spelled value is read first
pub guarded : {V : Type 0} (Spells : List ℕ → V → Type 0) (bytes : List ℕ) (r : Option V) (test : V → Bool) → ((v : V) → Decides (test v) (Spells bytes v)) → ((v : V) → Spells bytes v → r ≡ Some v)
    → Decodes Spells bytes (r >>= λ v. cond (test v) (Some v) None)
guarded Spells bytes None test decides found = λ v s. none-some v (found v s)
guarded {V} Spells bytes (Some v) test decides found = go (test v) refl
  where
    go : (b : Bool) → test v ≡ b → Decodes Spells bytes (cond b (Some v) None)
    go true told = (decides v).0 told
    go false told = λ w s.
        let same : v ≡ w = same_Some v w (found w s) in
        let clash : true ≡ false = sym ((decides w).1 s) ∙ ap test (sym same) ∙ told in
        cc

-- where bytes have one meaning, what is decoded is what is read
pub one_reading : {V : Type 0} (Spells : List ℕ → V → Type 0) → HasOneMeaning Spells → (bytes : List ℕ) (a b : Option V) → Decodes Spells bytes a → Decodes Spells bytes b → a ≡ b
one_reading Spells one bytes (Some v) (Some w) s t = ap (λ x. Some x) (one bytes v w s t)
one_reading Spells one bytes (Some v) None s t = absurd (t v s)
one_reading Spells one bytes None (Some w) s t = absurd (s w t)
one_reading Spells one bytes None None s t = refl

pub reading_answered : {V E : Type 0} (Spells : List ℕ → V → Type 0) (read : List ℕ → Option V) → HasOneMeaning Spells → IsReaderOf Spells read → (bytes : List ℕ) (answer : Result (Option V) E)
    → IfOk answer (Decodes Spells bytes) → IfOk answer (λ found. found ≡ read bytes)
reading_answered Spells read one reads bytes (Ok found) h = one_reading Spells one bytes found (read bytes) h (reads bytes)
reading_answered Spells read one reads bytes (Err e) h = tt

-- a spelled value is the one that is read
pub read_as : {V : Type 0} (Spells : List ℕ → V → Type 0) (read : List ℕ → Option V) → HasOneMeaning Spells → IsReaderOf Spells read → (bytes : List ℕ) (v : V) → Spells bytes v → read bytes ≡ Some v
read_as {V} Spells read one reads bytes v s = go (read bytes) (reads bytes)
  where
    go : (r : Option V) → Decodes Spells bytes r → r ≡ Some v
    go (Some w) t = ap (λ x. Some x) (one bytes w v t s)
    go None t = absurd (t v s)

-- a value that is read is spelled
pub spelled_as : {V : Type 0} (Spells : List ℕ → V → Type 0) (read : List ℕ → Option V) → IsReaderOf Spells read → (bytes : List ℕ) (v : V) → read bytes ≡ Some v → Spells bytes v
spelled_as Spells read reads bytes v is = subst (Decodes Spells bytes) is (reads bytes)

-- ---- tests

le_decides : (a b : ℕ) → Decides (leb a b) (a ≤ b)
le_decides a b = (λ e. grind (arith, nat_tests), λ h. grind (arith, nat_tests))

self_decides : (b : Bool) → Decides b (b ≡ true)
self_decides b = (λ e. e, λ e. e)

target_decides : (target : List ℕ) → Decides (ltb 0 (length target) && (leb (length target) 4095 && list_all fits_target target)) (IsTarget target)
target_decides target =
    Decides-like _ (λ p. record { some = p.0; short = p.1.0; plain = p.1.1 }) (λ h. (h.some, (h.short, h.plain)))
    (Decides-and _ _ (Decides-ltb 0 (length target)) (Decides-and _ _ (le_decides (length target) 4095) (self_decides (list_all fits_target target))))

has_target_decides : (kind : Kind) → Decides (has_target kind) (HasTarget kind)
has_target_decides File = (λ _. tt, λ _. refl)
has_target_decides Dir = (λ _. tt, λ _. refl)
has_target_decides (Symlink target) = target_decides target

has_size_decides : (kind : Kind) (size : ℕ) → Decides (has_size kind size) (HasSize kind size)
has_size_decides File size = (λ _. tt, λ _. refl)
has_size_decides Dir size = Decides-eqb size 0
has_size_decides (Symlink target) size = Decides-eqb size (length target)

has_pin_decides : (kind : Kind) (pin : Option Rank) → Decides (may_have_pin kind pin) (HasPinOf kind pin)
has_pin_decides kind None = (λ _. tt, λ _. refl)
has_pin_decides File (Some rank) = (λ e. cc, λ h. absurd h)
has_pin_decides Dir (Some rank) = Decides-ltb rank.0 16
has_pin_decides (Symlink target) (Some rank) = (λ e. cc, λ h. absurd h)

allows_decides : (inode : Inode) → Decides (allows inode) (IsRecordable inode)
allows_decides inode =
    Decides-like _ (λ p. record { number = p.0; mode = p.1.0; size = p.1.1.0; target = p.1.1.1.0; pin = p.1.1.1.1 }) (λ h. (h.number, (h.mode, (h.size, (h.target, h.pin)))))
    (Decides-and _ _ (number_decides inode.ino.0) (Decides-and _ _ (le_decides inode.mode 4095) (Decides-and _ _ (has_size_decides inode.kind inode.size) (Decides-and _ _ (has_target_decides inode.kind) (has_pin_decides inode.kind inode.pin)))))

pub first_decides : (bytes : List ℕ) (inode : Inode) → Decides (is_record_v1 bytes inode) (IsRecordV1 bytes inode)
first_decides bytes inode =
    Decides-like _ (λ p. record { allowed = p.0; widths = p.1.0; plain = p.1.1.0; spelled = p.1.1.1 }) (λ h. (h.allowed, (h.widths, (h.plain, h.spelled))))
    (Decides-and _ _ (allows_decides inode) (Decides-and _ _ (widths_decides inode) (Decides-and _ _ (plain_decides inode) (bytes_eq-Decides bytes (record_v1 inode)))))

pub written_decides : (bytes : List ℕ) (inode : Inode) → Decides (is_record_v2 bytes inode) (IsRecordV2 bytes inode)
written_decides bytes inode =
    Decides-like _ (λ p. record { allowed = p.0; widths = p.1.0; spelled = p.1.1 }) (λ h. (h.allowed, (h.widths, h.spelled)))
    (Decides-and _ _ (allows_decides inode) (Decides-and _ _ (widths_decides inode) (bytes_eq-Decides bytes (record_v2 inode))))

either : {P Q : Type 0} (a b : Bool) → Decides a P → Decides b Q → Decides (a || b) (P ⊎ Q)
either true b p q = (λ e. inl (p.0 refl), λ h. refl)
either false true p q = (λ e. inr (q.0 refl), λ h. refl)
either {P} {Q} false false p q = (λ e. absurd cc, no)
  where
    no : P ⊎ Q → false ≡ true
    no (inl x) = p.1 x
    no (inr y) = q.1 y

-- whether the bytes are a record of the inode in a version that is read
entry_decides : (bytes : List ℕ) (inode : Inode) → Decides (is_record_v1 bytes inode || is_record_v2 bytes inode) (SpellsEntry bytes inode)
entry_decides bytes inode = either _ _ (first_decides bytes inode) (written_decides bytes inode)

header_decides : (bytes : List ℕ) (header : FragHeader) → Decides (is_header bytes header) (SpellsHeader bytes header)
header_decides bytes header =
    Decides-like _ (λ p. record { committed = p.0; version = p.1.0; files = p.1.1.0; dirs = p.1.1.1.0; spelled = p.1.1.1.1 }) (λ h. (h.committed, (h.version, (h.files, (h.dirs, h.spelled)))))
    (Decides-and _ _ (le_decides 1 header.version) (Decides-and _ _ (Decides-ltb header.version (2 ^ 64)) (Decides-and _ _ (Decides-ltb header.files (2 ^ 64))
    (Decides-and _ _ (Decides-ltb header.dirs (2 ^ 64)) (bytes_eq-Decides bytes (header_bytes header))))))

pub fragment_decides : (f : Fragment) → Decides (is_fragment f) (IsFragment f)
fragment_decides f =
    Decides-like _ (λ p. record { few_bits = p.0; in_range = p.1.0; justified = p.1.1 }) (λ h. (h.few_bits, (h.in_range, h.justified)))
    (Decides-and _ _ (le_decides f.bits 24) (Decides-and _ _ (Decides-ltb f.value (2 ^ 24)) (Decides-eqb (f.value % span f.bits) 0)))

tiles_decides : (low high : ℕ) (fs : List Fragment) → Decides (do_tile low high fs) (Tiles low high fs)
tiles_decides low high [] = Decides-eqb low high
tiles_decides low high (f ∷ fs) =
    Decides-like _ (λ p. (p.0, p.1.0, p.1.1)) (λ h. (h.0, (h.1, h.2)))
    (Decides-and _ _ (fragment_decides f) (Decides-and _ _ (Decides-eqb f.value low) (tiles_decides (low + span f.bits) high fs)))

tree_decides : (bytes : List ℕ) (leaves : List Fragment) → Decides (spells_tree bytes leaves) (SpellsTree bytes leaves)
tree_decides bytes leaves =
    Decides-like _ (λ p. record { tree = record { tiles = p.0.0; few = p.0.1 }; several = p.1.0; spelled = p.1.1 }) (λ h. ((h.tree.tiles, h.tree.few), (h.several, h.spelled)))
    (Decides-and _ _ (Decides-and _ _ (tiles_decides 0 (2 ^ 24) leaves) (le_decides (length leaves) 4096)) (Decides-and _ _ (le_decides 2 (length leaves)) (bytes_eq-Decides bytes (tree_bytes leaves))))

pub name_decides : (bytes : List ℕ) → Decides (is_name bytes) (IsName bytes)
name_decides bytes =
    Decides-like _ (λ p. record { some = p.0; short = p.1.0; plain = p.1.1.0; no_dots = not-true _ p.1.1.1 }) (λ h. (h.some, (h.short, (h.plain, ap not h.no_dots))))
    (Decides-and _ _ (Decides-ltb 0 (length bytes)) (Decides-and _ _ (le_decides (length bytes) 255) (Decides-and _ _ (self_decides (list_all fits_name bytes)) (self_decides (not (is_dots bytes))))))

-- ---- what is read first

kind_again : (kind : Kind) → kind_of (kind_byte kind) (target_bytes kind) ≡ Some kind
kind_again File = refl
kind_again Dir = refl
kind_again (Symlink target) = refl

pin_again : (kind : Kind) (pin : Option Rank) → HasPinOf kind pin → pin_of_byte (pin_byte pin) ≡ pin
pin_again kind None h = refl
pin_again File (Some rank) h = absurd h
pin_again Dir (Some rank) h = let other : eqb rank.0 255 ≡ false = grind (arith, nat_tests, h) in ap (λ (b : Bool). cond b None (Some rank)) other
pin_again (Symlink target) (Some rank) h = absurd h

entry_first : (bytes : List ℕ) (inode : Inode) → SpellsEntry bytes inode → inode_at bytes ≡ Some inode
unfolding inode_at
entry_first bytes inode s =
    ap (λ (r : Option RecordFields). r >>= λ f. kind_of f.kind f.target >>= λ kind. Some (inode_with f kind)) (fields_of_record bytes inode s)
    ∙ ap (λ (r : Option Kind). r >>= λ kind. Some (inode_with (fields_of_inode inode) kind)) (kind_again inode.kind)
    ∙ ap (λ (pin : Option Rank). Some (record inode { pin = pin })) (pin_again inode.kind inode.pin (allowed bytes inode s).pin)

header_first : (bytes : List ℕ) (header : FragHeader) → SpellsHeader bytes header → header_read_at bytes ≡ Some header
header_first bytes header s = ap header_read_at s.spelled ∙ header_again header s.committed s.version s.files s.dirs

pub fragment_again : (f : Fragment) → IsFragment f → word_fragment (word_of f) ≡ f
fragment_again f h =
    let bits : word_of f / 2 ^ 24 ≡ f.bits = omega (arith, h.in_range) in
    let value : word_of f % 2 ^ 24 ≡ f.value = omega (arith, h.in_range) in
    λ i. record { bits = bits i; value = value i }

leaves_again : (fs : List Fragment) → AllByRecursion IsFragment fs → leaves_of_numbers (length fs) (flat_map leaf_bytes fs) ≡ fs
leaves_again [] all = refl
leaves_again (f ∷ fs) all =
    let word : little_number 4 (flat_map leaf_bytes (f ∷ fs)) ≡ word_of f =
    ap (little_number 4) (flat_map-cons leaf_bytes f fs) ∙ little_number-reads_back 4 (word_of f) (flat_map leaf_bytes fs) (word_low f all.0) in
    let rest : drop 4 (flat_map leaf_bytes (f ∷ fs)) ≡ flat_map leaf_bytes fs =
    ap (drop 4) (flat_map-cons leaf_bytes f fs) ∙ drop_at (leaf_bytes f) (flat_map leaf_bytes fs) 4 (length-bytes_low_first 0 4 (word_of f)) in
    ap (λ (w : ℕ). word_fragment w ∷ leaves_of_numbers (length fs) (drop 4 (flat_map leaf_bytes (f ∷ fs)))) word
    ∙ ap (λ (g : Fragment). g ∷ leaves_of_numbers (length fs) (drop 4 (flat_map leaf_bytes (f ∷ fs)))) (fragment_again f all.0)
    ∙ ap (λ (words : List ℕ). f ∷ leaves_of_numbers (length fs) words) rest ∙ ap (λ (gs : List Fragment). f ∷ gs) (leaves_again fs all.1)

tree_first : (bytes : List ℕ) (leaves : List Fragment) → SpellsTree bytes leaves → all_leaves_at bytes ≡ Some leaves
unfolding all_leaves_at
tree_first bytes leaves s =
    let count : length (flat_map leaf_bytes leaves) / 4 ≡ length leaves = omega (arith, four_each leaves) in
    ap (λ (r : Option (List ℕ)). r >>= λ words. Some (leaves_of_numbers (length words / 4) words)) (words_of_tree bytes leaves s)
    ∙ ap (λ (n : ℕ). Some (leaves_of_numbers n (flat_map leaf_bytes leaves))) count ∙ ap (λ (fs : List Fragment). Some fs) (leaves_again leaves (fragments_of leaves s.tree))

pub front_again : (name : List ℕ) → front_of (entry_key name) ≡ name
front_again name =
    let longer : length name ≡ length (name ++ codes "_head") - 5 = omega (arith, length-append name (codes "_head")) in
    take_at name (codes "_head") (length (name ++ codes "_head") - 5) longer

key_first : (key name : List ℕ) → SpellsKey key name → Some (front_of key) ≡ Some name
key_first key name s = ap (λ (k : List ℕ). Some (front_of k)) s.1 ∙ ap (λ (n : List ℕ). Some n) (front_again name)

-- ---- the functions

pub reads_entry : IsReaderOf SpellsEntry inode_of_record
unfolding inode_of_record
reads_entry bytes = guarded SpellsEntry bytes (inode_at bytes) (λ inode. is_record_v1 bytes inode || is_record_v2 bytes inode) (entry_decides bytes) (entry_first bytes)

pub reads_written : IsReaderOf WritesEntry written_of
unfolding written_of
reads_written bytes = guarded WritesEntry bytes (inode_at bytes) (is_written bytes) (written_decides bytes) (λ inode s. entry_first bytes inode (inr s))

pub reads_header : IsReaderOf SpellsHeader header_of
unfolding header_of
reads_header bytes = guarded SpellsHeader bytes (header_read_at bytes) (is_header bytes) (header_decides bytes) (header_first bytes)

pub reads_tree : IsReaderOf SpellsTree tree_of_bytes
unfolding tree_of_bytes
reads_tree bytes = guarded SpellsTree bytes (all_leaves_at bytes) (spells_tree bytes) (tree_decides bytes) (tree_first bytes)

pub reads_key : IsReaderOf SpellsKey name_of_key
unfolding name_of_key
reads_key key =
    guarded SpellsKey key (Some (front_of key)) (λ name. is_name name && bytes_eq key (entry_key name))
    (λ name. Decides-and (is_name name) (bytes_eq key (entry_key name)) (name_decides name) (bytes_eq-Decides key (entry_key name))) (key_first key)

pub one_key : HasOneMeaning SpellsKey
one_key key a b s t = sym (front_again a) ∙ ap front_of (sym s.1 ∙ t.1) ∙ front_again b
