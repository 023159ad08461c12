-- What reads and preparations leave, and that they come from `Came` steps.
use Rattle.std.proofs.Common.{◌≡◌, ℕ, Bool, true, false, cond, ◌⊎◌, inl, inr, Option, Some, None, refl, sym, ap, subst, ◌∙◌}
use Rattle.std.specs.FinMap as finmap
use Rattle.std.proofs.lemmas.Option.{same_Some}
use Rattle.objstore.specs.Objects.{Objects}
use Rattle.cached_frag.specs.Cached.{Cached}
use Rattle.dentry_cache.specs.Cache.{Leaf, leaf_is, unsaved_in}
use Rattle.dentry_cache.specs.CacheCalls.{FetchesAt, IsRewritten, KeepsAt, MakesRoomAt, Rewrites}
use Rattle.dentry_cache.specs.CacheMap.{At, CacheMap, lies_by, at_rank, has_place, here, rewritten, unclean, unsaved_at, used_at, with_frag}
use Rattle.dentry_cache.specs.Came.{Came, StaysNamed}
use Rattle.dentry_cache.specs.Came.Came.{stays as came_stays, uses as came_uses, has as came_has, alters as came_alters, room as came_room, ends as came_ends}
use Rattle.dentry_cache.specs.Loading.{object_of}
use Rattle.dentry_cache.specs.Reads.{IsButRoom, IsReadOf, Reads}
use Rattle.dentry_cache.specs.Reads.Reads.{stays as it_stays, uses, grows, loads, room, frees}
use Rattle.dentry_cache.proofs.CameLaws.{absent_roomy}
use Rattle.sorted_map.proofs.NatKeys.{is_apart, is_same, same_or_apart}
use Rattle.dentry_cache.proofs.FrameLaws.{staying_named}
use Rattle.dentry_cache.proofs.StepLaws.{get_with_frag, held_given_up, held_roomy}
use Rattle.dentry_cache.proofs.UncleanLaws.{unclean_alike, unclean_gone, unclean_roomy, unclean_same}
use Rattle.dentry_cache.proofs.UsedLaws.{loaded_clean}
use Rattle.dentry_cache.proofs.LeafLaws.{one_leaf}

-- ---- the same but for its room

pub room_itself : (f : Cached) → IsButRoom f f
room_itself f = refl

pub room_twice : (f g now : Cached) → IsButRoom f g → IsButRoom g now → IsButRoom f now
room_twice f g now one more = more ∙ ap (λ (k : Cached). record k { room = now.room; places = now.places }) one

-- one whose room for changes is another
pub room_changed : (f now : Cached) → now ≡ record f { room = now.room } → IsButRoom f now
room_changed f now is = is ∙ ap (λ (n : ℕ). record f { room = now.room; places = n }) (sym (ap (λ (k : Cached). k.places) is))

-- one whose room for names that become clean is another
pub places_changed : (f now : Cached) → now ≡ record f { places = now.places } → IsButRoom f now
places_changed f now is = is ∙ ap (λ (n : ℕ). record f { room = n; places = now.places }) (sym (ap (λ (k : Cached). k.room) is))

pub room_unsaved : (f now : Cached) → IsButRoom f now → unsaved_in (Some now) ≡ unsaved_in (Some f)
room_unsaved f now is = ap (λ (k : Cached). unsaved_in (Some k)) is

-- a rank that has a fragment of a leaf has it in the map
pub here_is : (r : ℕ) (o : Option At) (f : Cached) → at_rank r o ≡ Some f → o ≡ Some (lies_by r f)
here_is r None f is = let clash : None ≡ Some f = is in absurd cc
here_is r (Some a) f is = go (same_or_apart a.rank r)
  where
    go : (a.rank ≡ r) ⊎ (a.rank ≡ r → ⊥) → Some a ≡ Some (lies_by r f)
    go (inl same) =
        let one : a.frag ≡ f = same_Some a.frag f (sym (ap (λ b. cond b (Some a.frag) None) (is_same a.rank r same)) ∙ is) in
        λ i. Some (record { rank = same i; frag = one i })
    go (inr apart) = let clash : None ≡ Some f = sym (ap (λ b. cond b (Some a.frag) None) (is_apart a.rank r apart)) ∙ is in absurd cc

-- what was read has other room then
pub read_more : (Uses : ℕ → Leaf → Type 0) (objects : Objects) (q : Leaf) (was : Option At) (a : At) (now : Cached) → IsReadOf Uses objects q was a → IsButRoom a.frag now → IsReadOf Uses objects q was (lies_by a.rank now)
read_more Uses objects q was a now (inl of) more = inl (of.0, of.1, room_twice of.0 a.frag now of.2 more)
read_more Uses objects q was a now (inr of) more = inr (of.0, of.1, of.2, room_twice of.1 a.frag now of.3 more)

-- ---- each call is a step

module _ (Uses Ends : ℕ → Leaf → Type 0) (objects : Objects) (start : CacheMap) where
  pub used_reads : (old new : CacheMap) (r : ℕ) (leaf : Leaf) → Reads Uses Ends objects start old → Uses r leaf → new ≡ used_at old r leaf → Reads Uses Ends objects start new
  used_reads old new r leaf reads named is = subst (Reads Uses Ends objects start) (sym is) (uses old r leaf reads named)

  -- a fragment gets other room
  pub rewrites_reads : (old new : CacheMap) (r : ℕ) (leaf : Leaf) (Change : Cached → Cached → Type 0) → ((f now : Cached) → Change f now → IsButRoom f now) → Reads Uses Ends objects start old → Uses r leaf → Rewrites Change r leaf old new
      → Reads Uses Ends objects start new
  rewrites_reads old new r leaf Change same reads named e = go (here old r leaf) refl e
    where
      go : (o : Option Cached) → here old r leaf ≡ o → IsRewritten Change r leaf o old new → Reads Uses Ends objects start new
      go None seen e = absurd e
      go (Some f) seen e = subst (Reads Uses Ends objects start) (sym e.2) (grows old r leaf f e.0 reads named seen (same f e.0 e.1))

  module _ (old new : CacheMap) (r : ℕ) (leaf : Leaf) (stay : Option Leaf) (reads : Reads Uses Ends objects start old) (named : Uses r leaf) (stayed : StaysNamed Uses stay) where
    -- a place became free for a leaf that had none, or none did
    pub room_reads : has_place old r leaf ≡ false → MakesRoomAt r stay old new → Reads Uses Ends objects start new
    room_reads absent (inl same) = subst (Reads Uses Ends objects start) (sym same) reads
    room_reads absent (inr made) = room old new r leaf stay reads named absent stayed made

    -- a place was kept
    pub keeps_reads : has_place old r leaf ≡ false → KeepsAt r leaf stay old new → Reads Uses Ends objects start new
    keeps_reads absent k = used_reads k.0 new r leaf (room old k.0 r leaf stay reads named absent stayed k.1) named k.2

    -- a fetch
    pub fetched_reads : (b : Bool) → has_place old r leaf ≡ b → FetchesAt r leaf stay (object_of objects leaf.0 leaf.1) b old new → Reads Uses Ends objects start new
    fetched_reads true seen is = used_reads old new r leaf reads named is
    fetched_reads false seen f =
        subst (Reads Uses Ends objects start) (sym f.5)
        (loads f.3 r leaf f.1 (room old f.3 r leaf stay reads named seen stayed f.4) named (absent_roomy old f.3 r stay leaf f.4 f.0) f.2)

-- ---- what reads leave

module _ (Uses Ends : ℕ → Leaf → Type 0) (objects : Objects) (old : CacheMap) where
  -- they are steps that use and end what they name
  pub reads_came : (new : CacheMap) → Reads Uses Ends objects old new → Came Uses Ends old new
  reads_came _ it_stays = came_stays
  reads_came _ (uses mid r leaf before named) = came_uses mid r leaf (reads_came mid before) named
  reads_came _ (grows mid r leaf f now before named seen same) = came_alters mid r leaf f now (reads_came mid before) named seen
  reads_came _ (loads mid r leaf f before named none spelt) = came_has mid r leaf f (reads_came mid before) named
  reads_came _ (room mid new r leaf stay before named none kept is) = came_room mid new r leaf stay (reads_came mid before) named none kept is
  reads_came _ (frees mid r leaf before named none) = came_ends mid r leaf (reads_came mid before) named

  -- what isn't clean stays
  pub reads_unclean : (new : CacheMap) → Reads Uses Ends objects old new → unclean new ≡ unclean old
  reads_unclean _ it_stays = refl
  reads_unclean _ (uses mid r leaf before named) = unclean_alike (used_at mid r leaf) mid (λ q. refl) ∙ reads_unclean mid before
  reads_unclean _ (grows mid r leaf f now before named seen same) =
      unclean_alike (rewritten mid r leaf now) (with_frag mid r leaf now) (λ q. refl)
      ∙ unclean_same mid r leaf now (ap unsaved_at (here_is r (finmap.get mid.held leaf) f seen) ∙ sym (room_unsaved f now same)) ∙ reads_unclean mid before
  reads_unclean _ (loads mid r leaf f before named none spelt) =
      unclean_same mid r leaf f (ap unsaved_at none ∙ sym (loaded_clean leaf.1 (object_of objects leaf.0 leaf.1) f spelt)) ∙ reads_unclean mid before
  reads_unclean _ (room mid new r leaf stay before named none kept is) = unclean_roomy mid new r stay is ∙ reads_unclean mid before
  reads_unclean _ (frees mid r leaf before named none) = unclean_gone mid r leaf (λ some. ap unsaved_at none) ∙ reads_unclean mid before

  -- each fragment was there at its rank, with other room at most, or its object spells it and its leaf is read at its rank
  pub reads_held : (new : CacheMap) → Reads Uses Ends objects old new → (q : Leaf) (a : At) → finmap.get new.held q ≡ Some a → IsReadOf Uses objects q (finmap.get old.held q) a
  reads_held _ it_stays q a is = inl (a.frag, is, room_itself a.frag)
  reads_held _ (uses mid r leaf before named) q a is = reads_held mid before q a is
  reads_held _ (grows mid r leaf f now before named seen same) q a is = go (λ b was. reads_held mid before q b was) (leaf_is q leaf) refl (sym (get_with_frag mid r leaf now q) ∙ is)
    where
      go : ((b : At) → finmap.get mid.held q ≡ Some b → IsReadOf Uses objects q (finmap.get old.held q) b) → (b : Bool) → leaf_is q leaf ≡ b → cond b (Some (lies_by r now)) (finmap.get mid.held q) ≡ Some a
          → IsReadOf Uses objects q (finmap.get old.held q) a
      go rest true one is =
          subst (IsReadOf Uses objects q (finmap.get old.held q)) (same_Some (lies_by r now) a is)
          (read_more Uses objects q (finmap.get old.held q) (lies_by r f) now (rest (lies_by r f) (ap (finmap.get mid.held) (one_leaf q leaf one) ∙ here_is r (finmap.get mid.held leaf) f seen)) same)
      go rest false one is = rest a is
  reads_held _ (loads mid r leaf f before named none spelt) q a is = go (λ was. reads_held mid before q a was) (leaf_is q leaf) refl (sym (get_with_frag mid r leaf f q) ∙ is)
    where
      go : (finmap.get mid.held q ≡ Some a → IsReadOf Uses objects q (finmap.get old.held q) a) → (b : Bool) → leaf_is q leaf ≡ b → cond b (Some (lies_by r f)) (finmap.get mid.held q) ≡ Some a
          → IsReadOf Uses objects q (finmap.get old.held q) a
      go rest true one is =
          subst (IsReadOf Uses objects q (finmap.get old.held q)) (same_Some (lies_by r f) a is)
          (subst (λ (l : Leaf). IsReadOf Uses objects l (finmap.get old.held q) (lies_by r f)) (sym (one_leaf q leaf one)) (inr (named, f, spelt, room_itself f)))
      go rest false one is = rest is
  reads_held _ (room mid new r leaf stay before named none kept is) q a there = reads_held mid before q a (held_roomy mid new r stay q a is there)
  reads_held _ (frees mid r leaf before named none) q a is = reads_held mid before q a (held_given_up mid r leaf q a is)

-- steps after others
pub reads_then : (Uses Ends : ℕ → Leaf → Type 0) (objects : Objects) (old mid new : CacheMap) → Reads Uses Ends objects old mid → Reads Uses Ends objects mid new → Reads Uses Ends objects old new
reads_then Uses Ends objects old mid _ first it_stays = first
reads_then Uses Ends objects old mid _ first (uses next r leaf before named) = uses next r leaf (reads_then Uses Ends objects old mid next first before) named
reads_then Uses Ends objects old mid _ first (grows next r leaf f now before named seen same) = grows next r leaf f now (reads_then Uses Ends objects old mid next first before) named seen same
reads_then Uses Ends objects old mid _ first (loads next r leaf f before named none spelt) = loads next r leaf f (reads_then Uses Ends objects old mid next first before) named none spelt
reads_then Uses Ends objects old mid _ first (room next new r leaf stay before named none kept is) = room next new r leaf stay (reads_then Uses Ends objects old mid next first before) named none kept is
reads_then Uses Ends objects old mid _ first (frees next r leaf before named none) = frees next r leaf (reads_then Uses Ends objects old mid next first before) named none

-- steps that name no more than others
module _ (Uses Ends More Other : ℕ → Leaf → Type 0) (used : (r : ℕ) (leaf : Leaf) → Uses r leaf → More r leaf) (ended : (r : ℕ) (leaf : Leaf) → Ends r leaf → Other r leaf) (objects : Objects) (old : CacheMap) where
  pub reads_weaker : (new : CacheMap) → Reads Uses Ends objects old new → Reads More Other objects old new
  reads_weaker _ it_stays = it_stays
  reads_weaker _ (uses mid r leaf before named) = uses mid r leaf (reads_weaker mid before) (used r leaf named)
  reads_weaker _ (grows mid r leaf f now before named seen same) = grows mid r leaf f now (reads_weaker mid before) (used r leaf named) seen same
  reads_weaker _ (loads mid r leaf f before named none spelt) = loads mid r leaf f (reads_weaker mid before) (used r leaf named) none spelt
  reads_weaker _ (room mid new r leaf stay before named none kept is) = room mid new r leaf stay (reads_weaker mid before) (used r leaf named) none (staying_named Uses More used stay kept) is
  reads_weaker _ (frees mid r leaf before named none) = frees mid r leaf (reads_weaker mid before) (ended r leaf named) none
