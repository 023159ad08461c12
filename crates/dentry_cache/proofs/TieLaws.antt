-- What ties cached fragments to their objects.
use Rattle.std.proofs.Common.{◌≡◌, ℕ, Bool, true, false, cond, not, ◌⊎◌, inl, inr, List, Option, Some, None, refl, sym, ap, subst, ◌∙◌}
use Rattle.std.specs.Prelude.{◌==◌}
use Rattle.std.specs.Option.{unwrap_or}
use Rattle.std.specs.FinMap as map
use Rattle.std.proofs.lemmas.Bool.{eqb-true}
use Rattle.mds_types.specs.Frag.{Fragment}
use Rattle.mds_types.specs.declared.inodes.Inode.{Inode}
use Rattle.objstore.specs.Omap.{Omap, empty_omap}
use Rattle.dirfrag_codec.specs.FragmentObject.{Names, SpellsFragment, names_of_pairs}
use Rattle.dirfrag_codec.proofs.ByteKeys.{get_beside, get_put, one_map, same_or_apart}
use Rattle.dirfrag_codec.proofs.FragmentLaws.{names_shown}
use Rattle.cached_frag.specs.declared.bases.Base.{Base}
use Rattle.cached_frag.specs.declared.bases.Base.TheVariants.{Fresh, Stored}
use Rattle.cached_frag.specs.declared.marks.Mark.{Mark}
use Rattle.cached_frag.specs.Commit.{IsOver}
use Rattle.cached_frag.specs.Marks.{Marks, inode_or, patched}
use Rattle.cached_frag.specs.Snap.{Snap, counts_of, next_version}
use Rattle.cached_frag.proofs.CommitLaws.{commit_is_right}
use Rattle.cached_frag.proofs.MarkLaws.{get-patched}
use Rattle.cached_frag.specs.Cached.{Cached, is_settled, marked, names_below, shown_names, shown_over}
use Rattle.cached_frag.proofs.SettledLaws.{get-unsettled}
use Rattle.dentry_cache.specs.Loading.{Loads}
use Rattle.dentry_cache.specs.Commits.{IsCommitted}
use Rattle.dentry_cache.specs.Ties.{ChangedAreTied, Commits, CommittedAreTied, FetchedAreTied, IsRight, IsTied, IsTiedAt, IsStillDirty, TiedShow, names_at, object_after}

-- ---- what is shown

alike : (clean below : Names) (dirty : Marks) → ((q : List ℕ) → map.get dirty q ≡ None → map.get clean q ≡ map.get below q) → patched clean dirty ≡ patched below dirty
alike clean below dirty same = one_map _ _ (λ q. get-patched clean dirty q ∙ go q (map.get dirty q) refl ∙ sym (get-patched below dirty q))
  where
    go : (q : List ℕ) (mark : Option Mark) → map.get dirty q ≡ mark → inode_or (map.get dirty q) (map.get clean q) ≡ inode_or (map.get dirty q) (map.get below q)
    go q (Some mark) is = ap (λ (r : Option Mark). inode_or r (map.get clean q)) is ∙ sym (ap (λ (r : Option Mark). inode_or r (map.get below q)) is)
    go q None is = ap (inode_or (map.get dirty q)) (same q is)

show_at : (base : Base) (f : Cached) (object : Option Omap) → IsTiedAt base f object → shown_over base f.clean f.dirty ≡ shown_over base (names_at object) f.dirty
show_at Fresh f object tie = refl
show_at (Stored version) f None tie = absurd tie
show_at (Stored version) f (Some object) tie = alike f.clean (names_of_pairs object.pairs) f.dirty tie.1

pub tied_show : TiedShow
tied_show f object tie = show_at f.base f object tie

-- ---- what is fetched, and what is changed

fetched_at : (frag : Fragment) (object : Omap) (f : Cached) → Loads frag (Some object) (Some f) → IsTied f (Some object)
fetched_at frag object f l =
    let names : l.1 ≡ names_of_pairs object.pairs = names_shown object.pairs l.1 l.2.0.pairs in
    subst (λ (g : Cached). IsTied g (Some object)) (sym l.3)
    (subst (SpellsFragment object l.0) names l.2.0, λ name clean. ap (λ (n : Names). map.get n name) names)

pub fetched_are_tied : FetchedAreTied
fetched_are_tied frag None f l = absurd l
fetched_are_tied frag (Some object) f l = fetched_at frag object f l

not_marked : (dirty : Marks) (name : List ℕ) (mark : Mark) (q : List ℕ) → map.get (map.insert dirty name mark) q ≡ None → map.get dirty q ≡ None
not_marked dirty name mark q none = go (same_or_apart q name)
  where
    go : (q ≡ name) ⊎ (q ≡ name → ⊥) → map.get dirty q ≡ None
    go (inl same) = let clash : Some mark ≡ None = sym (get_put dirty name mark) ∙ sym (ap (λ (k : List ℕ). map.get (map.insert dirty name mark) k) same) ∙ none in absurd cc
    go (inr apart) = sym (get_beside dirty name mark q apart) ∙ none

changed_at : (base : Base) (f : Cached) (object : Option Omap) (name : List ℕ) (mark : Mark) → IsTiedAt base f object → IsTiedAt base (marked f name mark) object
changed_at Fresh f object name mark tie = tt
changed_at (Stored version) f None name mark tie = tie
changed_at (Stored version) f (Some object) name mark tie = (tie.0, λ q none. tie.1 q (not_marked f.dirty name mark q none))

pub changed_are_tied : ChangedAreTied
changed_are_tied f object name mark tie = changed_at f.base f object name mark tie

-- ---- what is committed

-- a name that became clean is what the snapshot has
became : (mark : Mark) (then : Option Mark) (below : Option Inode) → IsStillDirty (Some mark) then → cond (not (is_settled (Some mark) then)) (Some mark) None ≡ None → mark.inode ≡ inode_or then below
became mark (Some then) below keeps none = go (mark.version == then.version) refl none
  where
    go : (b : Bool) → (mark.version == then.version) ≡ b → cond (not b) (Some mark) None ≡ None → mark.inode ≡ then.inode
    go true same none = ap (λ (m : Mark). m.inode) (keeps (eqb-true mark.version then.version same))
    go false same none = cc
became mark None below keeps none = cc

at_name : (mark then : Option Mark) (clean below : Option Inode) → IsStillDirty mark then → (mark ≡ None → clean ≡ below) → cond (not (is_settled mark then)) mark None ≡ None → inode_or mark clean ≡ inode_or then below
at_name (Some mark) then clean below keeps same none = became mark then below keeps none
at_name None (Some then) clean below keeps same none = absurd keeps
at_name None None clean below keeps same none = same refl

same_below : (base : Base) (f : Cached) (object : Option Omap) (q : List ℕ) → IsTiedAt base f object → map.get f.dirty q ≡ None → map.get (names_below base f.clean) q ≡ map.get (names_below base (names_at object)) q
same_below Fresh f object q tie none = refl
same_below (Stored version) f None q tie none = absurd tie
same_below (Stored version) f (Some object) q tie none = tie.1 q none

-- the names over which the commit is made
over : (base : Base) (snapshot : Snap) (f : Cached) (object : Option Omap) → IsTiedAt base f object → snapshot.base ≡ base → Commits snapshot f object → IsOver base snapshot (unwrap_or object empty_omap) (names_below base (names_at object))
over Fresh snapshot f object tie is c = refl
over (Stored version) snapshot f None tie is c = absurd tie
over (Stored version) snapshot f (Some object) tie is c = (tie.0, c.counted ∙ ap (λ (b : Base). counts_of (shown_over b (names_of_pairs object.pairs) snapshot.names)) is)

module _ (snapshot : Snap) (f now : Cached) (object : Option Omap) (tie : IsTied f object) (c : Commits snapshot f object) (done : IsCommitted snapshot f now) where
  below : Names
  below = names_below snapshot.base (names_at object)

  tie_here : IsTiedAt snapshot.base f object
  tie_here = subst (λ (b : Base). IsTiedAt b f object) (sym c.based) tie

  spells : SpellsFragment (object_after snapshot object) (next_version snapshot.base) (shown_over snapshot.base (names_at object) snapshot.names)
  spells = commit_is_right snapshot (unwrap_or object empty_omap) (names_below snapshot.base (names_at object)) c.valid (over snapshot.base snapshot f object tie_here refl c)

  names_now : shown_over snapshot.base (names_at object) snapshot.names ≡ names_of_pairs (object_after snapshot object).pairs
  names_now = names_shown (object_after snapshot object).pairs (shown_over snapshot.base (names_at object) snapshot.names) spells.pairs

  clean_now : (q : List ℕ) → map.get now.dirty q ≡ None → map.get now.clean q ≡ map.get (shown_names now) q
  clean_now q none =
      sym (ap (λ (b : Base). map.get (shown_over b now.clean now.dirty) q) done.based ∙ get-patched now.clean now.dirty q ∙ ap (λ (r : Option Mark). inode_or r (map.get now.clean q)) none)

  agrees : (q : List ℕ) → map.get now.dirty q ≡ None → map.get now.clean q ≡ map.get (names_of_pairs (object_after snapshot object).pairs) q
  agrees q none =
      let left : cond (not (is_settled (map.get f.dirty q) (map.get snapshot.names q))) (map.get f.dirty q) None ≡ None =
      sym (get-unsettled f.dirty snapshot.names q) ∙ sym (ap (λ (m : Marks). map.get m q) done.dirty) ∙ none in
      clean_now q none ∙ ap (λ (n : Names). map.get n q) done.shown ∙ get-patched (names_below f.base f.clean) f.dirty q
      ∙ at_name (map.get f.dirty q) (map.get snapshot.names q) (map.get (names_below f.base f.clean) q) (map.get (names_below snapshot.base (names_at object)) q) (c.keeps q)
      (λ clean. ap (λ (b : Base). map.get (names_below b f.clean) q) (sym c.based) ∙ same_below snapshot.base f object q tie_here clean) left
      ∙ sym (get-patched (names_below snapshot.base (names_at object)) snapshot.names q) ∙ ap (λ (n : Names). map.get n q) names_now

  tied_now : IsTied now (Some (object_after snapshot object))
  tied_now = subst (λ (b : Base). IsTiedAt b now (Some (object_after snapshot object))) (sym done.based) (subst (SpellsFragment (object_after snapshot object) (next_version snapshot.base)) names_now spells, agrees)

  right_now : IsRight snapshot now object
  right_now = record { spelled = spells; tied = tied_now }

pub committed_are_tied : CommittedAreTied
committed_are_tied snapshot f now object tie c done = right_now snapshot f now object tie c done
