-- What the sets and removals of a commit answer at the keys of names.
use Rattle.std.proofs.Common.{◌≡◌, ℕ, Bool, cond, ◌⊎◌, List, [], ◌∷◌, Option, Some, None, refl, sym, ap, ◌∙◌, inl, inr}
use Rattle.std.specs.Prelude.{T}
use Rattle.std.specs.Ordering.{eq_by_cmp}
use Rattle.std.specs.FinMap as map
use Rattle.std.specs.FinMap.{find, is_sorted, entries_sorted, get-empty, get-entries}
use Rattle.sorted_map.proofs.Bools.{left_of, right_of}
use Rattle.mds_types.specs.declared.inodes.Inode.{Inode}
use Rattle.objstore.specs.EntryKeys.{entry_key}
use Rattle.objstore.specs.Omap.{Keys, PairMap, key_cmp}
use Rattle.dirfrag_codec.specs.EntryRecord.{entry_bytes}
use Rattle.dirfrag_codec.proofs.ByteKeys.{get_beside, get_put, key_apart, key_same, not_found, same_or_apart}
use Rattle.dirfrag_codec.proofs.FragmentLaws.{one_name}
use Rattle.cached_frag.specs.declared.marks.Mark.{Mark}
use Rattle.cached_frag.specs.Commit.{gone_of, set_of, with_key, keys_after_marks, with_record, with_records}
use Rattle.cached_frag.specs.Marks.{Marks}

-- ---- sets

abbrev pub no_pairs : PairMap
no_pairs = map.empty

abbrev pub bytes_or : Option Inode → Option (List ℕ) → Option (List ℕ)
bytes_or (Some inode) below = Some (entry_bytes inode)
bytes_or None below = below

abbrev pub record_or : Option Mark → Option (List ℕ) → Option (List ℕ)
record_or (Some mark) below = bytes_or mark.inode below
record_or None below = below

record_here : (set : PairMap) (name : List ℕ) (inode : Option Inode) → map.get (with_record set name inode) (entry_key name) ≡ bytes_or inode (map.get set (entry_key name))
record_here set name (Some inode) = get_put set (entry_key name) (entry_bytes inode)
record_here set name None = refl

record_beside : (set : PairMap) (name : List ℕ) (inode : Option Inode) (key : List ℕ) → (key ≡ entry_key name → ⊥) → map.get (with_record set name inode) key ≡ map.get set key
record_beside set name (Some inode) key apart = get_beside set (entry_key name) (entry_bytes inode) key apart
record_beside set name None key apart = refl

get-with_records : (set : PairMap) (es : List (List ℕ × Mark)) (q : List ℕ) → T (is_sorted key_cmp es) → map.get (with_records set es) (entry_key q) ≡ record_or (find key_cmp q es) (map.get set (entry_key q))
get-with_records set [] q sorted = refl
get-with_records set (e ∷ es) q sorted = get-with_records (with_record set e.0 e.1.inode) es q (right_of _ _ sorted) ∙ go (same_or_apart q e.0)
  where
    go : (q ≡ e.0) ⊎ (q ≡ e.0 → ⊥)
        → record_or (find key_cmp q es) (map.get (with_record set e.0 e.1.inode) (entry_key q)) ≡ record_or (cond (eq_by_cmp key_cmp q e.0) (Some e.1) (find key_cmp q es)) (map.get set (entry_key q))
    go (inl same) =
        let here : map.get (with_record set e.0 e.1.inode) (entry_key q) ≡ bytes_or e.1.inode (map.get set (entry_key q)) =
        ap (λ (n : List ℕ). map.get (with_record set e.0 e.1.inode) (entry_key n)) same ∙ record_here set e.0 e.1.inode ∙ sym (ap (λ (n : List ℕ). bytes_or e.1.inode (map.get set (entry_key n))) same) in
        ap (λ (r : Option Mark). record_or r (map.get (with_record set e.0 e.1.inode) (entry_key q))) (not_found e.0 q es same (left_of _ _ sorted)) ∙ here
        ∙ sym (ap (λ (b : Bool). record_or (cond b (Some e.1) (find key_cmp q es)) (map.get set (entry_key q))) (key_same q e.0 same))
    go (inr apart) =
        ap (record_or (find key_cmp q es)) (record_beside set e.0 e.1.inode (entry_key q) (λ k. apart (one_name q e.0 k)))
        ∙ sym (ap (λ (b : Bool). record_or (cond b (Some e.1) (find key_cmp q es)) (map.get set (entry_key q))) (key_apart q e.0 apart))

-- at the key of a name
pub get-set_of : (marks : Marks) (name : List ℕ) → map.get (set_of marks) (entry_key name) ≡ record_or (map.get marks name) None
unfolding set_of
get-set_of marks name =
    get-with_records map.empty (map.entries marks) name (entries_sorted marks) ∙ ap (record_or (find key_cmp name (map.entries marks))) (get-empty key_cmp (entry_key name))
    ∙ ap (λ (r : Option Mark). record_or r None) (sym (get-entries marks name))

-- any other key is no name's
abbrev pub IsEntryKey : List ℕ → Type 0
IsEntryKey key = (name : List ℕ) × (key ≡ entry_key name)

record_keys : (set : PairMap) (es : List (List ℕ × Mark)) (key : List ℕ) → (map.get (with_records set es) key ≡ map.get set key) ⊎ IsEntryKey key
record_keys set [] key = inl refl
record_keys set (e ∷ es) key = go (same_or_apart key (entry_key e.0)) (record_keys (with_record set e.0 e.1.inode) es key)
  where
    go : (key ≡ entry_key e.0) ⊎ (key ≡ entry_key e.0 → ⊥) → (map.get (with_records (with_record set e.0 e.1.inode) es) key ≡ map.get (with_record set e.0 e.1.inode) key) ⊎ IsEntryKey key
        → (map.get (with_records (with_record set e.0 e.1.inode) es) key ≡ map.get set key) ⊎ IsEntryKey key
    go (inl same) later = inr (e.0, same)
    go (inr apart) (inl is) = inl (is ∙ record_beside set e.0 e.1.inode key apart)
    go (inr apart) (inr is) = inr is

pub set_keys : (marks : Marks) (key : List ℕ) → (map.get (set_of marks) key ≡ None) ⊎ IsEntryKey key
unfolding set_of
set_keys marks key = go (record_keys map.empty (map.entries marks) key)
  where
    go : (map.get (with_records no_pairs (map.entries marks)) key ≡ map.get no_pairs key) ⊎ IsEntryKey key → (map.get (with_records no_pairs (map.entries marks)) key ≡ None) ⊎ IsEntryKey key
    go (inl is) = inl (is ∙ get-empty key_cmp key)
    go (inr is) = inr is

-- ---- removals

abbrev pub key_or : Option Inode → Option (Unit {0}) → Option (Unit {0})
key_or (Some inode) below = below
key_or None below = Some tt

abbrev pub gone_or : Option Mark → Option (Unit {0}) → Option (Unit {0})
gone_or (Some mark) below = key_or mark.inode below
gone_or None below = below

key_here : (keys : Keys) (name : List ℕ) (inode : Option Inode) → map.get (with_key keys name inode) (entry_key name) ≡ key_or inode (map.get keys (entry_key name))
key_here keys name (Some inode) = refl
key_here keys name None = get_put keys (entry_key name) tt

key_beside : (keys : Keys) (name : List ℕ) (inode : Option Inode) (key : List ℕ) → (key ≡ entry_key name → ⊥) → map.get (with_key keys name inode) key ≡ map.get keys key
key_beside keys name (Some inode) key apart = refl
key_beside keys name None key apart = get_beside keys (entry_key name) tt key apart

get-with_keys : (keys : Keys) (es : List (List ℕ × Mark)) (q : List ℕ) → T (is_sorted key_cmp es) → map.get (keys_after_marks keys es) (entry_key q) ≡ gone_or (find key_cmp q es) (map.get keys (entry_key q))
get-with_keys keys [] q sorted = refl
get-with_keys keys (e ∷ es) q sorted = get-with_keys (with_key keys e.0 e.1.inode) es q (right_of _ _ sorted) ∙ go (same_or_apart q e.0)
  where
    go : (q ≡ e.0) ⊎ (q ≡ e.0 → ⊥)
        → gone_or (find key_cmp q es) (map.get (with_key keys e.0 e.1.inode) (entry_key q)) ≡ gone_or (cond (eq_by_cmp key_cmp q e.0) (Some e.1) (find key_cmp q es)) (map.get keys (entry_key q))
    go (inl same) =
        let here : map.get (with_key keys e.0 e.1.inode) (entry_key q) ≡ key_or e.1.inode (map.get keys (entry_key q)) =
        ap (λ (n : List ℕ). map.get (with_key keys e.0 e.1.inode) (entry_key n)) same ∙ key_here keys e.0 e.1.inode ∙ sym (ap (λ (n : List ℕ). key_or e.1.inode (map.get keys (entry_key n))) same) in
        ap (λ (r : Option Mark). gone_or r (map.get (with_key keys e.0 e.1.inode) (entry_key q))) (not_found e.0 q es same (left_of _ _ sorted)) ∙ here
        ∙ sym (ap (λ (b : Bool). gone_or (cond b (Some e.1) (find key_cmp q es)) (map.get keys (entry_key q))) (key_same q e.0 same))
    go (inr apart) =
        ap (gone_or (find key_cmp q es)) (key_beside keys e.0 e.1.inode (entry_key q) (λ k. apart (one_name q e.0 k)))
        ∙ sym (ap (λ (b : Bool). gone_or (cond b (Some e.1) (find key_cmp q es)) (map.get keys (entry_key q))) (key_apart q e.0 apart))

pub get-gone_of : (marks : Marks) (name : List ℕ) → map.get (gone_of marks) (entry_key name) ≡ gone_or (map.get marks name) None
unfolding gone_of
get-gone_of marks name =
    get-with_keys map.empty (map.entries marks) name (entries_sorted marks) ∙ ap (gone_or (find key_cmp name (map.entries marks))) (get-empty key_cmp (entry_key name))
    ∙ ap (λ (r : Option Mark). gone_or r None) (sym (get-entries marks name))
