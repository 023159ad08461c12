-- What a walk finds that meets no faulty object is a sound tree, and the one that is shown.
use Rattle.mdcache.proofs.Common.{AllCachedIn, CacheMap, Core, Counts, Covers, DirPins, Homes, IfOk, IsColdTree, IsCounted, IsLive, IsMounted, IsNewTree, HasOwner, IsReached, IsReachedObject, IsRecord, IsSaved, IsSound, IsSoundCore, IsTabled, IsWalked, KeepsNone, Keys, List, Names, None, Objects, Record, Result, SaysLeaves, Some, State, Tree, allowed, ap, arith, belongs, eqb-true, hash_of, in_empty, inl, inr, is_cold, is_dir_kind, is_known, is_some, leaves_of, mounted, no_caches, object_of, or_cases, pick_from_leaf, refl, rules, said_tree, shown_in, shown_tree, state_of, subst, sym, text_of, tree_object_of, true, unclean, value_of, walked_is_tabled, ℕ, ⊎_elim, ◌<◌, ◌==◌, ◌^◌, ◌∙◌, ◌≡◌, ◌⊎◌}
use Rattle.std.specs.FinMap as map
use Rattle.mds_types.specs.Leaf.{Leaf, leaf_cmp}
pub use Rattle.cold_store.specs.Rows.{IsIn}
pub use Rattle.cold_store.proofs.Members.{get_entry}
use Rattle.cold_store.proofs.WalkedLaws.{known_there as known_by}
use Rattle.cold_store.proofs.ColdLaws.{has_one_cold_tree}
use Rattle.mdcache.proofs.CoverRows.{several_in_row}
use Rattle.mdcache.proofs.NewLaws.{new_tree, none_held, none_kept, none_unclean}
use Rattle.mdcache.proofs.NamedLaws.{HasSoundLeaves, sound_again}
use Rattle.mdcache.proofs.FlushedLaws.{cold_leaf, has_records, live_leaf, shown_as, some_object}
use Rattle.mdcache.proofs.NoNames.{none_unless}

module _ (limit : ℕ) (objects : Objects) (tree : Tree) (homes : Homes) (covers : Covers) (counts : Counts) (pins : DirPins) (purge : Keys) (w : IsWalked objects tree homes covers purge) where
  abbrev s : State
  s = mounted limit objects homes covers counts pins purge

  -- ---- directories

  -- a directory is the root, or a record names it
  named : (d : ℕ) → is_known homes d ≡ true → (d ≡ 1) ⊎ ((r : Record) × IsReached objects r.leaf.0.0 × IsRecord objects r × (r.inode.ino.0 ≡ d) × (is_dir_kind r.inode.kind ≡ true))
  named d known = ⊎_elim (λ root. inl (eqb-true d 1 root))
      (λ some.
      let h = value_of (map.get homes d) some in
      let e = w.homes_held.stands d h.0 h.1 in
      let r = w.records.only h.0.parent.0 h.0.name e.0 e.1 in
      inr (record { leaf = (h.0.parent, r.0); name = h.0.name; inode = e.0 }, r.1, r.2, e.2, e.3)) (or_cases (d == 1) (is_some (map.get homes d)) known)

  reached_there : (d : ℕ) → is_known homes d ≡ true → IsReached objects d
  reached_there d known = ⊎_elim (λ root. subst (IsReached objects) (sym root) IsReached.root) (λ r. subst (IsReached objects) r.3 (IsReached.named r.0 r.1 r.2 r.4)) (named d known)

  numbered : (d : ℕ) → is_known homes d ≡ true → d < 2 ^ 64
  numbered d known = ⊎_elim (λ root. omega (arith, root)) (λ r. let most = (allowed objects r.0 r.2).number.most in let is = r.3 in omega (arith, most, is)) (named d known)

  -- ---- leaves and objects

  saved : (leaf : Leaf) → IsLive homes covers leaf → IsSaved leaf.1 (object_of objects leaf.0 leaf.1)
  saved leaf live = w.whole leaf (reached_there leaf.0.0 live.known) (cold_leaf s refl w.leaves leaf live)

  -- a tree object that is there says several leaves, so they were set
  owned : (name : List ℕ) → is_some (map.get objects name) ≡ true → IsReachedObject objects name ⊎ (is_some (map.get purge name) ≡ true) → HasOwner s name
  owned name some (inl (inl (leaf, above, of, is))) = inl (leaf, live_leaf s refl w.leaves leaf (known_by objects tree homes covers purge w leaf.0.0 above) of, is)
  owned name some (inl (inr (dir, above, is))) =
      let row = elim (tree_object_of objects dir) as (λ o. SaysLeaves o (leaves_of covers dir.0) → is_some o ≡ true → is_some (map.get covers dir.0) ≡ true) [
        | None ↦ λ said some. absurd cc
        | Some object ↦ λ said some. several_in_row covers dir.0 said.several
      ] in
      inr (inl (dir, row (w.leaves dir (known_by objects tree homes covers purge w dir.0 above)) (subst (λ n. is_some (map.get objects n) ≡ true) is some), is))
  owned name some (inr listed) = inr (inr listed)

  leaves_sound : HasSoundLeaves s
  leaves_sound = record {
    table = (walked_is_tabled objects tree homes covers purge w).1;
    numbered = numbered;
    placed = λ leaf name inode live stands.
        pick_from_leaf (leaves_of covers leaf.0.0) (hash_of name) leaf.1 (said_tree (tree_object_of objects leaf.0) (leaves_of covers leaf.0.0) (w.leaves leaf.0 live.known)) live.stands
        (belongs leaf.1 (object_of objects leaf.0 leaf.1) name inode (saved leaf live) (ap (λ (n : Names). map.get n name) (sym (shown_as s refl w.leaves leaf)) ∙ stands));
    unsaved = λ leaf u is. in_empty leaf_cmp leaf u is;
    saved = λ leaf live clean. saved leaf live;
    owned = λ name some. owned name some (w.reached_or_left name some);
    listed = λ leaf live. none_unless (map.get purge (text_of leaf)) (λ u is. w.not_reached (text_of leaf) (ap is_some is) (inl (leaf, reached_there leaf.0.0 live.known, cold_leaf s refl w.leaves leaf live, refl)));
    standing = λ leaf job is. in_empty leaf_cmp leaf job is;
    once = λ a b i j is. in_empty leaf_cmp a i is;
  }

  -- the shown tree is the one that was walked
  pub shows : shown_tree s ≡ tree
  shows = ⊎_elim (λ none. absurd (some_object s refl w.leaves leaves_sound none.0))
      (λ cold. has_one_cold_tree objects (shown_tree s) tree (inr (cold.0, cold.1, has_records s refl w.leaves leaves_sound reached_there (known_by objects tree homes covers purge w))) (inr cold)) (is_cold objects tree homes covers purge w)

  pub is_sound : IsCounted tree counts pins → IsSound s
  is_sound counted = sound_again s leaves_sound (subst (λ t. IsTabled t homes) (sym shows) (walked_is_tabled objects tree homes covers purge w).0) (subst (λ t. IsCounted t counts pins) (sym shows) counted)

-- ---- the tree over the store

module _ (limit : ℕ) (objects : Objects) (ranks places : ℕ) (tree : Tree) (c : Core) (m : IsMounted limit objects ranks places tree c) where
  pub mounted_core : IsSoundCore c
  mounted_core = record {
    sound = subst IsSound (sym m.state) (is_sound limit objects tree c.homes c.covers c.counts c.pins c.purge m.walked m.counted);
    begun = let first : c.next_generation ≡ 1 = ap (λ (s : State). s.next_generation) m.state in omega (arith, first);
    cached = subst (AllCachedIn (state_of c)) (sym m.caches) (λ leaf a is. let clash : None ≡ Some a = sym (none_held ranks places leaf) ∙ is in absurd cc);
    none = (subst KeepsNone (sym m.caches) (none_kept ranks places));
  }

  pub mounted_shows : shown_in c ≡ tree
  mounted_shows = ap shown_tree m.state ∙ shows limit objects tree c.homes c.covers c.counts c.pins c.purge m.walked

  pub mounted_cold : IsColdTree objects (shown_in c)
  mounted_cold = subst (IsColdTree objects) (sym mounted_shows) (is_cold objects tree c.homes c.covers c.purge m.walked)

-- a new tree shows nothing
pub new_shows : (limit ranks places : ℕ) (tree : Tree) (c : Core) → IsNewTree limit ranks places tree c → shown_in c ≡ map.empty
new_shows limit ranks places tree c made = ap shown_tree made.state ∙ new_tree limit

-- what was put together of a walk's parts is such a tree
pub is_mounted : (limit : ℕ) (objects : Objects) (ranks places : ℕ) (tree found : Tree) (homes : Homes) (covers : Covers) (counts : Counts) (pins : DirPins) (left : Keys) (caches : CacheMap) (c : Core) → IsWalked objects found homes covers left → IsCounted found counts pins
    → tree ≡ found → caches ≡ no_caches ranks places → c.caches ≡ caches → state_of c ≡ record (mounted limit objects homes covers counts pins left) { unsaved = unclean caches } → IsMounted limit objects ranks places tree c
is_mounted limit objects ranks places tree found homes covers counts pins left caches c w counted same none its is =
    let parts : ◌≡◌ {A = Tree × Homes × Covers × Keys} (found, homes, covers, left) (tree, c.homes, c.covers, c.purge) = λ i. (sym same i, sym (ap (λ (s : State). s.homes) is) i, sym (ap (λ (s : State). s.covers) is) i, sym (ap (λ (s : State). s.purge) is) i) in
    let notes : ◌≡◌ {A = Tree × Counts × DirPins} (found, counts, pins) (tree, c.counts, c.pins) = λ i. (sym same i, sym (ap (λ (s : State). s.counts) is) i, sym (ap (λ (s : State). s.pins) is) i) in
    let clean : unclean caches ≡ map.empty = ap unclean none ∙ none_unclean ranks places in
    record {
      walked = subst (λ (p : Tree × Homes × Covers × Keys). IsWalked objects p.0 p.1 p.2 p.3) parts w;
      counted = subst (λ (p : Tree × Counts × DirPins). IsCounted p.0 p.1 p.2) notes counted;
      state = is ∙ (λ i. record (mounted limit objects (parts i).1 (parts i).2 (notes i).1 (notes i).2 (parts i).3) { unsaved = clean i });
      caches = its ∙ none;
    }

-- what follows from two facts, where a mount isn't refused
pub ok_both : {A E : Type 0} (result : Result A E) {P Q R : A → Type 0} → ((a : A) → P a → Q a → R a) → IfOk result P → IfOk result Q → IfOk result R
ok_both result so p q = search rules
