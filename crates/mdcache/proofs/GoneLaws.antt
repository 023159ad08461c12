-- A directory goes in which nothing is: nothing of it is left but names of objects to be removed, and the tree stays.
use Rattle.mdcache.proofs.Common.{Bool, Contains, Fragment, HasLeaf, Home, Ino, IsLive, IsPick, Job, Keys, Leaf, List, MayGo, Names, None, NothingIn, Option, Some, State, [], ap, arith, cond, cond_both, dentry-exact, dentry-total, dropped_table, each, false, false_from_ne_true, get-remove, get_beside, get_put, hash_of, in_directory, inl, inr, is_apart, is_known, is_some, later, leaf-total, leaf_equivalence, leaf_is, leaves, leaves_of, list_any, list_any-from_Contains, names_of, nat_list_cmp_total, object_texts_of, one_leaf, or_whole, refl, same_map, shown_tree, some_stays, subst, suc, sym, text_of, tied_leaf, tree_text, true, with_objects, without_directory, without_leaves, zero, ℕ, ⊎_elim, ◌==◌, ◌||◌, ◌∙◌, ◌∷◌, ◌≡◌, get-insert, key_cmp, eq_by_cmp, exact_bytes}
use Rattle.std.specs.FinMap as map
use Rattle.sorted_map.proofs.NatKeys.{get_left as get_left_home, get_removed as get_removed_home, same_or_apart as same_number}
use Rattle.dentry_cache.specs.Cache.{leaf_cmp}
use Rattle.mdcache.proofs.CoverRows.{row_left}
use Rattle.mdcache.proofs.HomeLaws.{shows_alike}
use Rattle.mdcache.proofs.NoNames.{none_unless}
use Rattle.mdcache.proofs.NamedLaws.{HasSoundLeaves, stands_nowhere}
use Rattle.mdcache.proofs.SoundLaws.{names_alike}
use Rattle.mdcache.proofs.TextLaws.{no_tree_text, one_text}

-- ---- what is kept of leaves, without some

pub get_without : {X : Type 0} (kept : map.FinMap leaf_cmp X) (ls : List Leaf) (q : Leaf) → map.get (without_leaves kept ls) q ≡ cond (list_any (leaf_is q) ls) None (map.get kept q)
get_without kept [] q = refl
get_without {X = X} kept (l ∷ ls) q =
    get_without (map.remove kept l) ls q
    ∙ ap (λ o. cond (list_any (leaf_is q) ls) None o) (get-remove leaf-total kept l q ∙ ap (λ (b : Bool). cond b None (map.get kept q)) (tied_leaf q l))
    ∙ elim (leaf_is q l) as (λ c. cond (list_any (leaf_is q) ls) None (cond c None (map.get kept q)) ≡ cond (c || list_any (leaf_is q) ls) None (map.get kept q)) [
      | true ↦ elim (list_any (leaf_is q) ls) as (λ b. cond {A = Option X} b None None ≡ None) [ true ↦ refl | false ↦ refl ]
      | false ↦ refl
    ]

-- what is made of one of some is among what is made of all
pub contains_mapped : {A B : Type 0} (f : A → B) (xs : List A) (x : A) → Contains xs x → Contains (each f xs) (f x)
contains_mapped f [] x (k, within, is) = absurd (omega (arith, within))
contains_mapped f (y ∷ ys) x (zero, within, is) = (zero, omega arith, ap f is)
contains_mapped f (y ∷ ys) x (suc k, within, is) = let rest = contains_mapped f ys x (k, omega (arith, within), is) in (suc rest.0, omega (arith, rest.1), rest.2)

-- a leaf of a directory is one of those of it,
pub one_of_those : (d : ℕ) (q : Leaf) (fs : List Fragment) → q.0.0 ≡ d → HasLeaf fs q.1 → Contains (each (in_directory d) fs) q
one_of_those d q fs same has = subst (Contains (each (in_directory d) fs)) (λ i. (record { 0 = sym same i }, q.1)) (contains_mapped (in_directory d) fs q.1 has)

-- so they are among them,
pub among : (d : ℕ) (q : Leaf) (fs : List Fragment) → q.0.0 ≡ d → HasLeaf fs q.1 → list_any (leaf_is q) (each (in_directory d) fs) ≡ true
among d q fs same has = list_any-from_Contains leaf_equivalence q (each (in_directory d) fs) (one_of_those d q fs same has)

-- and those of another aren't
elsewhere : (d : ℕ) (q : Leaf) (fs : List Fragment) → (q.0.0 ≡ d → ⊥) → list_any (leaf_is q) (each (in_directory d) fs) ≡ false
elsewhere d q [] apart = refl
elsewhere d q (f ∷ fs) apart = λ i. false_from_ne_true (leaf_is q (in_directory d f)) (λ is. apart (ap (λ (l : Leaf). l.0.0) (one_leaf q (in_directory d f) is))) i || elsewhere d q fs apart i

-- ---- a list with more names

-- a name that was on it is on it still,
stays_listed : (names : Keys) (more : List (List ℕ)) (q : List ℕ) → is_some (map.get names q) ≡ true → is_some (map.get (with_objects names more) q) ≡ true
stays_listed names [] q has = has
stays_listed names (n ∷ more) q has = stays_listed (map.insert names n tt) more q (some_stays nat_list_cmp_total names n tt q has)

-- and so is one of the others,
pub leaf_listed : (names : Keys) (ls : List Leaf) (q : Leaf) → Contains ls q → is_some (map.get (with_objects names (each text_of ls)) (text_of q)) ≡ true
leaf_listed names [] q (k, within, is) = absurd (omega (arith, within))
leaf_listed names (l ∷ ls) q (zero, within, is) =
    ap (λ (x : Leaf). is_some (map.get (with_objects names (text_of l ∷ each text_of ls)) (text_of x))) (sym is)
    ∙ stays_listed (map.insert names (text_of l) tt) (each text_of ls) (text_of l) (ap is_some (get_put names (text_of l) tt))
leaf_listed names (l ∷ ls) q (suc k, within, is) = leaf_listed (map.insert names (text_of l) tt) ls q (k, omega (arith, within), is)

-- two names go on a list in any order
pub either_first : (names : Keys) (a b : List ℕ) → map.insert (map.insert names a tt) b tt ≡ map.insert (map.insert names b tt) a tt
either_first names a b =
    same_map nat_list_cmp_total exact_bytes (map.insert (map.insert names a tt) b tt) (map.insert (map.insert names b tt) a tt) (λ q.
    put_twice a b q ∙ swapped (eq_by_cmp key_cmp q b) (eq_by_cmp key_cmp q a) (map.get names q) ∙ sym (put_twice b a q))
  where
    put_twice : (x y q : List ℕ) → map.get (map.insert (map.insert names x tt) y tt) q ≡ cond (eq_by_cmp key_cmp q y) (Some tt) (cond (eq_by_cmp key_cmp q x) (Some tt) (map.get names q))
    put_twice x y q =
        get-insert nat_list_cmp_total (map.insert names x tt) y tt q
        ∙ ap (λ o. cond (eq_by_cmp key_cmp q y) (Some tt) o) (get-insert nat_list_cmp_total names x tt q)

    swapped : (b c : Bool) (o : Option (Unit {0})) → cond b (Some tt) (cond c (Some tt) o) ≡ cond c (Some tt) (cond b (Some tt) o)
    swapped true true o = refl
    swapped true false o = refl
    swapped false true o = refl
    swapped false false o = refl

-- any other is as it was
pub beside_on : (names : Keys) (dir : Ino) (fs : List Fragment) (q : List ℕ) → ((f : Fragment) → HasLeaf fs f → q ≡ text_of (dir, f) → ⊥) → map.get (with_objects names (each text_of (each (in_directory dir.0) fs))) q ≡ map.get names q
beside_on names dir [] q none = refl
beside_on names dir (g ∷ fs) q none =
    beside_on (map.insert names (text_of (dir, g)) tt) dir fs q (λ f has. none f (later g f fs has)) ∙ get_beside names (text_of (dir, g)) tt q (none g (zero, omega arith, refl))

module _ (s : State) (sound : HasSoundLeaves s) (dir : Ino) (may : MayGo s.homes dir.0) (known : is_known s.homes dir.0 ≡ true) (nothing : NothingIn (shown_tree s) dir.0) where
  abbrev pub left : State
  left = without_directory s dir

  abbrev ls : List Leaf
  ls = leaves s.covers dir.0

  -- directories

  unknown : is_known left.homes dir.0 ≡ false
  unknown = λ i. is_apart dir.0 1 may.other i || is_some (get_removed_home s.homes dir.0 i)

  known_on : (d : ℕ) → (d ≡ dir.0 → ⊥) → is_known left.homes d ≡ is_known s.homes d
  known_on d apart = ap (λ (o : Option Home). (d == 1) || is_some o) (get_left_home s.homes dir.0 d apart)

  known_back : (d : ℕ) → is_known left.homes d ≡ true → (d ≡ dir.0 → ⊥) × (is_known s.homes d ≡ true)
  known_back d is = ⊎_elim (λ same. let clash : true ≡ false = sym is ∙ ap (is_known left.homes) same ∙ unknown in absurd cc) (λ apart. (apart, sym (known_on d apart) ∙ is)) (same_number d dir.0)

  cover_on : (d : ℕ) → (d ≡ dir.0 → ⊥) → leaves_of left.covers d ≡ leaves_of s.covers d
  cover_on d apart = ap or_whole (get_left_home s.covers dir.0 d apart)

  live_back : (leaf : Leaf) → IsLive left.homes left.covers leaf → (leaf.0.0 ≡ dir.0 → ⊥) × IsLive s.homes s.covers leaf
  live_back leaf live =
      let k = known_back leaf.0.0 live.known in
      (k.0, record { known = k.1; stands = subst (λ (fs : List Fragment). HasLeaf fs leaf.1) (cover_on leaf.0.0 k.0) live.stands })

  pub left_live : (leaf : Leaf) → (leaf.0.0 ≡ dir.0 → ⊥) → IsLive s.homes s.covers leaf → IsLive left.homes left.covers leaf
  left_live leaf apart live = record { known = known_on leaf.0.0 apart ∙ live.known; stands = subst (λ (fs : List Fragment). HasLeaf fs leaf.1) (sym (cover_on leaf.0.0 apart)) live.stands }

  -- what isn't clean, and jobs

  kept_on : {X : Type 0} (kept : map.FinMap leaf_cmp X) (q : Leaf) → (q.0.0 ≡ dir.0 → ⊥) → map.get (without_leaves kept ls) q ≡ map.get kept q
  kept_on kept q apart = get_without kept ls q ∙ ap (λ (b : Bool). cond b None (map.get kept q)) (elsewhere dir.0 q (leaves_of s.covers dir.0) apart)

  kept_back : {X : Type 0} (kept : map.FinMap leaf_cmp X) (q : Leaf) (x : X) → ((x : X) → map.get kept q ≡ Some x → IsLive s.homes s.covers q) → map.get (without_leaves kept ls) q ≡ Some x → (q.0.0 ≡ dir.0 → ⊥) × (map.get kept q ≡ Some x)
  kept_back kept q x live is = cond_both (list_any (leaf_is q) ls) None (map.get kept q) (λ o. o ≡ Some x → (q.0.0 ≡ dir.0 → ⊥) × (map.get kept q ≡ Some x)) (λ has h. let clash : None ≡ Some x = h in absurd cc)
      (λ none h. (λ same. let clash : true ≡ false = sym (among dir.0 q (leaves_of s.covers dir.0) same (subst (λ (d : ℕ). HasLeaf (leaves_of s.covers d) q.1) same (live x h).stands)) ∙ none in cc, h)) (sym (get_without kept ls q) ∙ is)

  job_back : (q : Leaf) (job : Job) → map.get left.jobs q ≡ Some job → (q.0.0 ≡ dir.0 → ⊥) × (map.get s.jobs q ≡ Some job)
  job_back q job is = kept_back s.jobs q job (λ i there. let old = sound.standing q i there in (sound.unsaved q old.unsaved old.beside).live) is

  pub left_names : (leaf : Leaf) → (leaf.0.0 ≡ dir.0 → ⊥) → names_of left.unsaved left.objects leaf ≡ names_of s.unsaved s.objects leaf
  left_names leaf apart = names_alike s left leaf (kept_on s.unsaved leaf apart) refl

  pub left_leaves : HasSoundLeaves left
  left_leaves = record {
    table = dropped_table s.homes s.covers dir.0 sound.table may.childless;
    numbered = λ d is. sound.numbered d (known_back d is).1;
    placed = λ leaf name inode live has.
        let b = live_back leaf live in
        subst (λ (fs : List Fragment). IsPick fs (hash_of name) leaf.1) (sym (cover_on leaf.0.0 b.0)) (sound.placed leaf name inode b.1 (ap (λ (n : Names). map.get n name) (sym (left_names leaf b.0)) ∙ has));
    unsaved = λ q u is. let b = kept_back s.unsaved q u (λ v there. (sound.unsaved q v there).live) is in let old = sound.unsaved q u b.1 in record { live = left_live q b.0 old.live; made = old.made; young = old.young };
    saved = λ leaf live clean. let b = live_back leaf live in sound.saved leaf b.1 (sym (kept_on s.unsaved leaf b.0) ∙ clean);
    owned = λ name there. ⊎_elim
        (λ leaf. ⊎_elim
        (λ same. inr (inr (ap (λ (n : List ℕ). is_some (map.get left.purge n)) leaf.2
        ∙ leaf_listed (map.insert s.purge (tree_text dir) tt) ls leaf.0 (one_of_those dir.0 leaf.0 (leaves_of s.covers dir.0) same (subst (λ (d : ℕ). HasLeaf (leaves_of s.covers d) leaf.0.1) same leaf.1.stands)))))
        (λ apart. inl (leaf.0, left_live leaf.0 apart leaf.1, leaf.2)) (same_number leaf.0.0.0 dir.0))
        (λ rest. ⊎_elim
        (λ d. ⊎_elim
        (λ same. inr (inr (ap (λ (n : List ℕ). is_some (map.get left.purge n)) (d.2 ∙ ap (λ (n : ℕ). tree_text (record { 0 = n })) same)
        ∙ stays_listed (map.insert s.purge (tree_text dir) tt) (each text_of ls) (tree_text dir) (ap is_some (get_put s.purge (tree_text dir) tt)))))
        (λ apart. inr (inl (d.0, row_left s.covers dir.0 d.0.0 apart d.1, d.2))) (same_number d.0.0 dir.0))
        (λ listed. inr (inr (stays_listed s.purge (object_texts_of s dir) name listed))) rest) (sound.owned name there);
    listed = λ leaf live.
        let b = live_back leaf live in
        beside_on (map.insert s.purge (tree_text dir) tt) dir (leaves_of s.covers dir.0) (text_of leaf) (λ f stands same. b.0 (ap (λ (l : Leaf). l.0.0) (one_text s.homes s.covers sound.table sound.numbered leaf (in_directory dir.0 f) b.1 (record { known = known; stands = stands }) same)))
        ∙ get_beside s.purge (tree_text dir) tt (text_of leaf) (no_tree_text s.homes s.covers sound.table sound.numbered leaf dir b.1 known) ∙ sound.listed leaf b.1;
    standing = λ leaf job is.
        let b = job_back leaf job is in
        let old = sound.standing leaf job b.1 in
        record { mine = old.mine; given = old.given; young = old.young; unsaved = old.unsaved; beside = kept_on s.unsaved leaf b.0 ∙ old.beside; taken = old.taken };
    once = λ a b i j p q same. sound.once a b i j (job_back a i p).1 (job_back b j q).1 same;
  }

  -- the tree

  pub left_tree : shown_tree left ≡ shown_tree s
  left_tree = same_map dentry-total dentry-exact (shown_tree left) (shown_tree s) (λ q. ⊎_elim
      (λ same. stands_nowhere left left_leaves q (ap (is_known left.homes) same ∙ unknown) ∙ sym (none_unless (map.get (shown_tree s) q) (λ i is. nothing q i is same)))
      (λ apart. shows_alike s left sound left_leaves q (known_on q.dir.0 apart) (cover_on q.dir.0 apart) (λ f live. left_names (q.dir, f) apart)) (same_number q.dir.0 dir.0))
