-- The state over an empty store is sound.
use Rattle.mdcache.proofs.Common.{AllCachedIn, Bool, Contains, Core, Covers, Homes, IsCounted, IsFree, IsLive, IsSound, IsSoundCore, IsTable, IsTabled, IsUnsaved, KeepsNone, Leaf, Mark, Names, None, Omap, Option, Some, State, Unsaved, UnsavedLeaves, [], ap, arith, cached_root, cond, cond_some, dentry-exact, dentry-total, dentry_cmp, directories, empty_tabled, dentries_in, entries_of, entries_under, eqb-true, false, get-empty, get-from_entries, get-insert, get_unclean, is_known, is_some, key_cmp, leaf-total, leaf_is, leaf_itself, leaves_of, len-empty, list_any, nat_cmp, new_caches, new_root, new_tree_state, no_caches, none_counted, none_entries, none_with_frag, object_of, one_leaf, or_cases, or_whole, refl, replicate, root_fragment, root_leaf, same_map, shown_at, shown_tree, state_of, subst, suc, sym, text_of, tied_leaf, true, unclean, unclean_with, unsaved_at, zero, ℕ, ⊎_elim, ◌++◌, ◌==◌, ◌||◌, ◌∙◌, ◌∷◌, ◌≡◌}
use Rattle.std.specs.Prelude.{get_or, map as each}
use Rattle.std.specs.FinMap as map
use Rattle.dentry_cache.specs.Cache.{leaf_cmp}
use Rattle.dentry_cache.proofs.LeafLaws.{leaf-exact}
use Rattle.mdcache.specs.Shown.{names_of, tree_of}
use Rattle.mdcache.proofs.PutLaws.{cached_with}
use Rattle.mdcache.proofs.EndLaws.{nothing_patched}

abbrev pub no_homes : Homes
no_homes = map.empty

abbrev pub no_covers : Covers
no_covers = map.empty

one_leaf_each : (d : ℕ) → leaves_of no_covers d ≡ root_fragment ∷ []
one_leaf_each d = ap or_whole (get-empty nat_cmp d)

root_known : (d : ℕ) → is_known no_homes d ≡ true → d ≡ 1
root_known d known = eqb-true d 1 (⊎_elim (λ is. is) (λ clash. let clash : false ≡ true = clash in absurd cc) (or_cases (d == 1) false (sym (ap (λ o. (d == 1) || is_some o) (get-empty nat_cmp d)) ∙ known)))

pub live_root : (leaf : Leaf) → IsLive no_homes no_covers leaf → leaf ≡ root_leaf
live_root leaf live =
    let dir : leaf.0.0 ≡ 1 = root_known leaf.0.0 live.known in
    let frag : leaf.1 ≡ root_fragment = alone (subst (λ fs. Contains fs leaf.1) (one_leaf_each leaf.0.0) live.stands) in
    λ i. (record { 0 = dir i }, frag i)
  where
    alone : Contains (root_fragment ∷ []) leaf.1 → leaf.1 ≡ root_fragment
    alone (zero, stands, is) = sym is
    alone (suc k, stands, is) = let never : ⊥ = omega (arith, stands) in absurd never

pub root_live : IsLive no_homes no_covers root_leaf
root_live = record { known = refl; stands = subst (λ fs. Contains fs root_fragment) (sym (one_leaf_each 1)) (zero, omega arith, refl) }

abbrev no_leaves : UnsavedLeaves
no_leaves = map.empty

no_table : IsTable no_homes no_covers
no_table = record {
  rooted = record {
    rootless = get-empty nat_cmp 1;
    rooted = λ x home is. let clash : None ≡ Some home = sym (get-empty nat_cmp x) ∙ is in absurd cc;
  };
  known = λ d leaves is. let clash : None ≡ Some leaves = sym (get-empty nat_cmp d) ∙ is in absurd cc;
  covers = λ d leaves is. let clash : None ≡ Some leaves = sym (get-empty nat_cmp d) ∙ is in absurd cc;
}

-- where a directory may have so many entries
module _ (limit : ℕ) where
  its_unsaved : (q : Leaf) → map.get (new_tree_state limit).unsaved q ≡ cond (leaf_is q root_leaf) (Some new_root) None
  its_unsaved q = get-insert leaf-total no_leaves root_leaf new_root q ∙ ap (λ (b : Bool). cond b (Some new_root) (map.get no_leaves q)) (tied_leaf q root_leaf) ∙ ap (cond (leaf_is q root_leaf) (Some new_root)) (get-empty _ q)

  root_unsaved : map.get (new_tree_state limit).unsaved root_leaf ≡ Some new_root
  root_unsaved = its_unsaved root_leaf ∙ ap (λ (b : Bool). cond b (Some new_root) None) (leaf_itself root_leaf)

  no_names : names_of (new_tree_state limit).unsaved (new_tree_state limit).objects root_leaf ≡ map.empty
  unfolding names_of
  no_names = ap (λ u. shown_at u (object_of (new_tree_state limit).objects root_leaf.0 root_leaf.1)) root_unsaved ∙ nothing_patched map.empty map.empty (len-empty key_cmp Mark)

  no_entries : dentries_in (names_of (new_tree_state limit).unsaved (new_tree_state limit).objects) no_covers (directories no_homes) ≡ []
  no_entries =
      let names = names_of (new_tree_state limit).unsaved (new_tree_state limit).objects in
      ap (λ ks. dentries_in names no_covers (1 ∷ each (λ e. e.0) ks)) (none_entries no_homes refl)
      ∙ ap (λ fs. entries_under names 1 fs ++ []) (one_leaf_each 1)
      ∙ ap (λ (n : Names). (entries_of 1 (map.entries n) ++ []) ++ []) no_names
      ∙ ap (λ es. (entries_of 1 es ++ []) ++ []) (none_entries {R = key_cmp} map.empty refl)

  pub new_tree : shown_tree (new_tree_state limit) ≡ map.empty
  unfolding tree_of
  new_tree = ap (λ es. map.from_entries es) no_entries ∙ same_map dentry-total dentry-exact (map.from_entries []) map.empty (λ q. get-from_entries dentry-total [] q ∙ sym (get-empty dentry_cmp q))

  unsaved_root : (leaf : Leaf) (u : Unsaved) → map.get (new_tree_state limit).unsaved leaf ≡ Some u → IsUnsaved (new_tree_state limit) leaf u
  unsaved_root leaf u is =
      let its = cond_some (leaf_is leaf root_leaf) new_root u (sym (its_unsaved leaf) ∙ is) in
      subst (λ (v : Unsaved). IsUnsaved (new_tree_state limit) leaf v) its.1 (subst (λ (l : Leaf). IsUnsaved (new_tree_state limit) l new_root) (sym (one_leaf leaf root_leaf its.0)) (record {
        live = root_live;
        made = omega arith;
        young = λ name mark has. let clash : None ≡ Some mark = sym (get-empty key_cmp name) ∙ has in absurd cc;
      }))

  pub new_sound : IsSound (new_tree_state limit)
  new_sound = record {
    table = no_table;
    numbered = λ d known. omega (arith, root_known d known);
    tabled = subst (λ tree. IsTabled tree no_homes) (sym new_tree) empty_tabled;
    counted = subst (λ tree. IsCounted tree (map.insert map.empty 1 0) map.empty) (sym new_tree) none_counted;
    placed = λ leaf name inode live has.
        let clash : None ≡ Some inode = sym (ap (λ (n : Names). map.get n name) (ap (names_of (new_tree_state limit).unsaved (new_tree_state limit).objects) (live_root leaf live) ∙ no_names) ∙ get-empty key_cmp name) ∙ has in
        absurd cc;
    unsaved = unsaved_root;
    saved = λ leaf live clean. let clash : None ≡ Some new_root = sym clean ∙ ap (map.get (new_tree_state limit).unsaved) (live_root leaf live) ∙ root_unsaved in absurd cc;
    owned = λ name has. let clash : false ≡ true = ap (λ (o : Option Omap). is_some o) (sym (get-empty key_cmp name)) ∙ has in absurd cc;
    listed = λ leaf live. get-empty key_cmp (text_of leaf);
    standing = λ leaf job is. let clash : None ≡ Some job = sym (get-empty leaf_cmp leaf) ∙ is in absurd cc;
    once = λ a b i j p q same. let clash : None ≡ Some i = sym (get-empty leaf_cmp a) ∙ p in absurd cc;
  }

-- ---- the caches

none_placed : (ranks s : ℕ) (q : Leaf) → list_any (leaf_is q) (get_or (replicate ranks []) s []) ≡ true → ⊥
none_placed zero s q placed = let clash : false ≡ true = placed in cc
none_placed (suc n) zero q placed = let clash : false ≡ true = placed in cc
none_placed (suc n) (suc s) q placed = none_placed n s q placed

pub none_held : (ranks places : ℕ) (q : Leaf) → map.get (no_caches ranks places).held q ≡ None
none_held ranks places q = get-empty leaf_cmp q

module _ (ranks places : ℕ) where
  pub none_kept : KeepsNone (no_caches ranks places)
  none_kept s q placed = absurd (none_placed ranks s q placed)

  pub new_none : KeepsNone (new_caches ranks places)
  new_none = none_with_frag (no_caches ranks places) (new_caches ranks places) 0 root_leaf cached_root (subst (IsFree 0) (sym (none_held ranks places root_leaf)) tt) none_kept refl

  pub none_unclean : unclean (no_caches ranks places) ≡ map.empty
  none_unclean = same_map leaf-total leaf-exact (unclean (no_caches ranks places)) map.empty
      (λ q. get_unclean (no_caches ranks places) q ∙ ap unsaved_at (none_held ranks places q) ∙ sym (get-empty leaf_cmp q))

-- a core that is so in each part
pub new_core : (ranks places : ℕ) (m : Core) → m.homes ≡ map.empty → m.covers ≡ map.empty → m.counts ≡ map.insert map.empty 1 0 → m.pins ≡ map.empty → m.caches ≡ new_caches ranks places → m.objects ≡ map.empty
    → m.jobs ≡ map.empty → m.purge ≡ map.empty → m.next_job ≡ 1 → m.next_generation ≡ 2 → m.next_version ≡ 1 → (state_of m ≡ new_tree_state m.limit) × IsSoundCore m
new_core ranks places m homes covers counts pins caches objects jobs purge job generation version = (
  is,
  record {
    sound = subst IsSound (sym is) (new_sound m.limit);
    begun = omega (arith, generation);
    cached = subst (λ (s : State). AllCachedIn s m.caches) (sym is) (subst (AllCachedIn (new_tree_state m.limit)) (sym caches)
        (cached_with (new_tree_state m.limit) (no_caches ranks places) 0 root_leaf cached_root (λ q a is. let clash : None ≡ Some a = sym (none_held ranks places q) ∙ is in absurd cc) (record { live = root_live; tied = tt; made = omega arith })));
    none = subst KeepsNone (sym caches) (new_none ranks places);
  },
)
  where
    is : state_of m ≡ new_tree_state m.limit
    is = (λ i. record { limit = m.limit; homes = homes i; covers = covers i; counts = counts i; pins = pins i; unsaved = unclean (caches i); objects = objects i; jobs = jobs i; purge = purge i; next_job = job i; next_generation = generation i; next_version = version i })
        ∙ (λ i. record (new_tree_state m.limit) { unsaved = (unclean_with (no_caches ranks places) 0 root_leaf cached_root ∙ ap (λ (u : UnsavedLeaves). map.insert u root_leaf new_root) (none_unclean ranks places)) i })
