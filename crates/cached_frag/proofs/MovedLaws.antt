-- Names that go from one map to another, one after the other.
use Rattle.std.proofs.Common.{◌≡◌, ℕ, ◌+◌, ◌-◌, ◌<◌, Bool, cond, ◌⊎◌, inl, inr, List, ◌∷◌, length, drop, Option, Some, None, refl, sym, ap, ◌∙◌, arith}
use Rattle.std.specs.FinMap as map
use Rattle.std.specs.FinMap.{find, get-entries, len-entries}
use Rattle.sorted_map.specs.SortedMap.{first_pair}
use Rattle.sorted_map.proofs.OverlayLaws.{popped, none_left}
use Rattle.mds_types.specs.declared.inodes.Inode.{Inode}
use Rattle.objstore.specs.Omap.{key_cmp}
use Rattle.dirfrag_codec.specs.FragmentObject.{Names}
use Rattle.dirfrag_codec.proofs.ByteKeys.{get_beside, get_left, get_put, get_removed, key_itself, same_or_apart}
use Rattle.cached_frag.specs.declared.marks.Mark.{Mark}
use Rattle.cached_frag.specs.Marks.{with_changed_name}
use Rattle.cached_frag.proofs.MarkLaws.{marked_beside, marked_here}
use Rattle.cached_frag.specs.Cached.{AreEntries, Cached, IsEntry, marked, shown_names}
use Rattle.cached_frag.specs.Moving.{marked_as, shown_as}
use Rattle.cached_frag.proofs.ShownLaws.{shown_marked}

-- ---- the first pair is taken out

module _ {X : Type 0} (old new : map.FinMap key_cmp X) (o : Option (List ℕ × X)) (pair : List ℕ × X) (some : o ≡ Some pair) (value : o ≡ first_pair old) (rest : map.entries new ≡ drop 1 (map.entries old)) where
  all : map.entries old ≡ pair ∷ map.entries new
  all = popped (map.entries old) (map.entries new) o pair some value rest

  pub popped_there : map.get old pair.0 ≡ Some pair.1
  popped_there =
      get-entries old pair.0 ∙ ap (find key_cmp pair.0) all ∙ ap (λ (b : Bool). cond b (Some pair.1) (find key_cmp pair.0 (map.entries new))) (key_itself pair.0)

  pub popped_len : map.len old ≡ map.len new + 1
  popped_len =
      let was : map.len old ≡ length (map.entries old) = len-entries old in
      let now : map.len new ≡ length (map.entries new) = len-entries new in
      let both : length (map.entries old) ≡ length (pair ∷ map.entries new) = ap (length {A = List ℕ × X}) all in
      omega (arith, was, now, both)

pub none_popped : {X : Type 0} (old : map.FinMap key_cmp X) (o : Option (List ℕ × X)) → o ≡ None → o ≡ first_pair old → (q : List ℕ) → map.get old q ≡ None
none_popped old o none value q = get-entries old q ∙ ap (find key_cmp q) (none_left (map.entries old) o none value)

pub none_len : {X : Type 0} (old : map.FinMap key_cmp X) (o : Option (List ℕ × X)) → o ≡ None → o ≡ first_pair old → map.len old ≡ 0
none_len {X} old o none value = len-entries old ∙ ap (length {A = List ℕ × X}) (none_left (map.entries old) o none value)

-- ---- a name comes in

module _ (old new : Names) (pair : List ℕ × Inode) (there : map.get old pair.0 ≡ Some pair.1) (removed : new ≡ map.remove old pair.0) where
  -- what comes in with the rest, over what this name made, is what comes in with all
  step : {A : Type 0} (over : Option Inode → A → A) (here : A) (q : List ℕ) (was now : A) → ((x : A) → over None x ≡ x) → ((x y : A) → over (Some pair.1) x ≡ over (Some pair.1) y) → (q ≡ pair.0 → now ≡ over (Some pair.1) was) → ((q ≡ pair.0 → ⊥) → now ≡ was)
      → over (map.get new q) now ≡ over (map.get old q) was
  step over here q was now none same at beside = go (same_or_apart q pair.0)
    where
      go : (q ≡ pair.0) ⊎ (q ≡ pair.0 → ⊥) → over (map.get new q) now ≡ over (map.get old q) was
      go (inl is) =
          let gone : map.get new q ≡ None = ap (λ (m : Names). map.get m q) removed ∙ ap (λ (k : List ℕ). map.get (map.remove old pair.0) k) is ∙ get_removed old pair.0 in
          let found : map.get old q ≡ Some pair.1 = ap (λ (k : List ℕ). map.get old k) is ∙ there in
          ap (λ (r : Option Inode). over r now) gone ∙ none now ∙ at is ∙ sym (ap (λ (r : Option Inode). over r was) found)
      go (inr apart) =
          let left : map.get new q ≡ map.get old q = ap (λ (m : Names). map.get m q) removed ∙ get_left old pair.0 q apart in
          ap (over (map.get new q)) (beside apart) ∙ ap (λ (r : Option Inode). over r was) left

  module _ (f now : Cached) (version : ℕ) (is : now ≡ marked f pair.0 (record { version = version; inode = Some pair.1 })) where
    abbrev mark : Mark
    mark = record { version = version; inode = Some pair.1 }

    pub dirty_step : (q : List ℕ) → marked_as version (map.get new q) (map.get now.dirty q) ≡ marked_as version (map.get old q) (map.get f.dirty q)
    dirty_step q =
        step (marked_as version) None q (map.get f.dirty q) (map.get now.dirty q) (λ x. refl) (λ x y. refl)
        (λ here. ap (λ (g : Cached). map.get g.dirty q) is ∙ ap (λ (k : List ℕ). map.get (map.insert f.dirty pair.0 mark) k) here ∙ get_put f.dirty pair.0 mark)
        (λ apart. ap (λ (g : Cached). map.get g.dirty q) is ∙ get_beside f.dirty pair.0 mark q apart)

    pub shown_step : (q : List ℕ) → shown_as (map.get new q) (map.get (shown_names now) q) ≡ shown_as (map.get old q) (map.get (shown_names f) q)
    shown_step q =
        step shown_as None q (map.get (shown_names f) q) (map.get (shown_names now) q) (λ x. refl) (λ x y. refl)
        (λ here. shows ∙ ap (λ (k : List ℕ). map.get (with_changed_name (shown_names f) pair.0 (Some pair.1)) k) here ∙ marked_here (shown_names f) pair.0 (Some pair.1))
        (λ apart. shows ∙ marked_beside (shown_names f) pair.0 (Some pair.1) q apart)
      where
        shows : map.get (shown_names now) q ≡ map.get (with_changed_name (shown_names f) pair.0 (Some pair.1)) q
        shows = ap (λ (g : Cached). map.get (shown_names g) q) is ∙ ap (λ (n : Names). map.get n q) (shown_marked f pair.0 mark)

    pub room_step : 0 < f.room → now.room + 1 ≡ f.room
    room_step some = let less : now.room ≡ f.room - 1 = ap (λ (g : Cached). g.room) is in omega (arith, less, some)

    pub same_step : (g : Cached) → f ≡ record { base = g.base; generation = g.generation; clean = g.clean; dirty = f.dirty; room = f.room; places = g.places }
        → now ≡ record { base = g.base; generation = g.generation; clean = g.clean; dirty = now.dirty; room = now.room; places = g.places }
    same_step g same =
        let base : now.base ≡ g.base = ap (λ (h : Cached). h.base) is ∙ ap (λ (h : Cached). h.base) same in
        let generation : now.generation ≡ g.generation = ap (λ (h : Cached). h.generation) is ∙ ap (λ (h : Cached). h.generation) same in
        let clean : now.clean ≡ g.clean = ap (λ (h : Cached). h.clean) is ∙ ap (λ (h : Cached). h.clean) same in
        let places : now.places ≡ g.places = ap (λ (h : Cached). h.places) is ∙ ap (λ (h : Cached). h.places) same in
        λ i. record { base = base i; generation = generation i; clean = clean i; dirty = now.dirty; room = now.room; places = places i }

  pub entries_step : AreEntries old → AreEntries new
  entries_step entries q inode found = go (same_or_apart q pair.0)
    where
      go : (q ≡ pair.0) ⊎ (q ≡ pair.0 → ⊥) → IsEntry q inode
      go (inl is) =
          let gone : map.get new q ≡ None = ap (λ (m : Names). map.get m q) removed ∙ ap (λ (k : List ℕ). map.get (map.remove old pair.0) k) is ∙ get_removed old pair.0 in
          let clash : None ≡ Some inode = sym gone ∙ found in
          absurd cc
      go (inr apart) = entries q inode (sym (ap (λ (m : Names). map.get m q) removed ∙ get_left old pair.0 q apart) ∙ found)
