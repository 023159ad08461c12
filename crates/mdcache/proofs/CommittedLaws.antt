-- Commits of whole fragments, one after the other.
use Rattle.mdcache.proofs.Common.{Base, CommitsWhole, EndsJobOf, Err, HasSpelled, IsAsItWas, IsAtHand, IsEnded, IsLive, IsSound, IsSavedNow, Job, Jobs, LacksNumbers, Leaf, List, MayNotCommit, None, Ok, Refusal, Result, Some, State, Unsaved, ap, arith, get_beside, inl, inr, names_at, names_then, next_version, object_of, refl, same_Some, shown_at, shown_over, subst, sym, text_of, ℕ, ⊎_elim, ◌∙◌, ◌≡◌, ◌≤◌, ◌⊎◌}
use Rattle.std.specs.FinMap as map
use Rattle.mds_types.proofs.LeafLaws.{get_left, get_removed, same_or_apart}
use Rattle.objstore.specs.Objects.{written}
use Rattle.mdcache.specs.Commits.{leaf_of_job}
use Rattle.mdcache.specs.Shown.{names_of}
use Rattle.mdcache.proofs.AtHandLaws.{ended_are_clean}
use Rattle.mdcache.proofs.SoundLaws.{names_alike}
use Rattle.mdcache.proofs.TextLaws.{one_text}

-- jobs alone change, as where they are given up
pub given_up_whole : (old new : State) (jobs : Jobs) (n : ℕ) → new ≡ record old { jobs = jobs; next_job = n } → CommitsWhole old new
given_up_whole old new jobs n left = subst (CommitsWhole old) (sym left) (record { left = refl; tree = refl; each = λ leaf live. inl (refl, refl); others = λ name none. refl })

-- commits after others
module _ (old mid new : State) (first : CommitsWhole old mid) (second : CommitsWhole mid new) where
  each_of : (leaf : Leaf) → IsAsItWas old mid leaf ⊎ IsSavedNow old mid leaf → IsAsItWas mid new leaf ⊎ IsSavedNow mid new leaf → IsAsItWas old new leaf ⊎ IsSavedNow old new leaf
  each_of leaf (inl a) (inl b) = inl (b.0 ∙ a.0, b.1 ∙ a.1)
  each_of leaf (inl a) (inr w) = inr (record {
    unsaved = w.unsaved;
    was = sym a.0 ∙ w.was;
    clean = w.clean;
    spelled = subst (HasSpelled (object_of new.objects leaf.0 leaf.1) (next_version w.unsaved.base)) (names_alike old mid leaf a.0 a.1) w.spelled;
  })
  each_of leaf (inr w) (inl b) = inr (record {
    unsaved = w.unsaved;
    was = w.was;
    clean = b.0 ∙ w.clean;
    spelled = subst (λ o. HasSpelled o (next_version w.unsaved.base) (names_of old.unsaved old.objects leaf)) (sym b.1) w.spelled;
  })
  each_of leaf (inr w) (inr v) = let clash : None ≡ Some v.unsaved = sym w.clean ∙ v.was in absurd cc

  pub whole_then : CommitsWhole old new
  whole_then = record {
    left = second.left ∙ (λ i. record (first.left i) { unsaved = new.unsaved; objects = new.objects; jobs = new.jobs; next_job = new.next_job });
    tree = second.tree ∙ first.tree;
    each = λ leaf live. each_of leaf (first.each leaf live) (second.each leaf (subst (λ (s : State). IsLive s.homes s.covers leaf) (sym first.left) live));
    others = λ name none. second.others name (λ leaf live. none leaf (subst (λ (s : State). IsLive s.homes s.covers leaf) first.left live)) ∙ first.others name none;
  }

-- a commit of a fragment that hasn't changed since it began
module _ (now new : State) (job : Job) (sound : IsSound now) (hand : IsAtHand now job) (ended : IsEnded now new job) where
  abbrev leaf : Leaf
  leaf = leaf_of_job job

  removed : new.unsaved ≡ map.remove now.unsaved leaf
  removed = ended_are_clean now new job hand ended

  live : IsLive now.homes now.covers leaf
  live = (sound.unsaved leaf hand.unsaved hand.beside).live

  -- the snapshot has all that the fragment shows
  base_is : job.snapshot.base ≡ hand.unsaved.base
  base_is =
      let stands = sound.standing leaf job hand.stands in
      stands.taken.base ∙ ap (λ (u : Unsaved). u.base) (same_Some stands.unsaved hand.unsaved (sym stands.beside ∙ hand.beside))

  shows_then : names_then job.snapshot (object_of now.objects job.ino job.frag) ≡ names_of now.unsaved now.objects leaf
  unfolding names_of
  shows_then =
      (λ i. shown_over (base_is i) (names_at (object_of now.objects job.ino job.frag)) (hand.names i))
      ∙ ap (λ o. shown_at o (object_of now.objects job.ino job.frag)) (sym hand.beside)

  object_beside : (name : List ℕ) → (name ≡ text_of leaf → ⊥) → map.get new.objects name ≡ map.get now.objects name
  unfolding written
  object_beside name apart = ap (λ (s : State). map.get s.objects name) ended.left ∙ get_beside now.objects (text_of leaf) _ name apart

  ended_whole : CommitsWhole now new
  ended_whole = record {
    left = subst (λ (k : State). k ≡ record now { unsaved = k.unsaved; objects = k.objects; jobs = k.jobs; next_job = k.next_job }) (sym ended.left) refl;
    tree = ended.tree;
    each = λ q it_lives. ⊎_elim (λ same. inr (subst (IsSavedNow now new) (sym same) (record {
      unsaved = hand.unsaved;
      was = hand.beside;
      clean = ap (λ m. map.get m leaf) removed ∙ get_removed now.unsaved leaf;
      spelled = subst (λ (b : Base). HasSpelled (object_of new.objects job.ino job.frag) (next_version b) (names_of now.unsaved now.objects leaf)) base_is
          (subst (HasSpelled (object_of new.objects job.ino job.frag) (next_version job.snapshot.base)) shows_then ended.spelled);
    }))) (λ apart. inl (
      ap (λ m. map.get m q) removed ∙ get_left now.unsaved leaf q apart,
      object_beside (text_of q) (λ same. apart (one_text now.homes now.covers sound.table sound.numbered q leaf it_lives live same)),
    )) (same_or_apart q leaf);
    others = λ name none. object_beside name (none leaf live);
  }

-- done or not
pub ends_whole : (now new : State) (before after : ℕ) (job : Job) → IsSound now → IsAtHand now job → (result : Result (Unit {0}) Refusal) → EndsJobOf now new before after job result → CommitsWhole now new
ends_whole now new before after job sound hand (Ok done) ended = ended_whole now new job sound hand ended
ends_whole now new before after job sound hand (Err reason) refused = subst (CommitsWhole now) (sym refused.1) (given_up_whole now now _ _ refl)

-- ---- batch after batch

-- what lacks later lacked before
pub lacked_before : (n : ℕ) (old now : State) (before after : ℕ) (reason : Refusal) → CommitsWhole old now → IsSound now → now.next_job ≡ old.next_job → MayNotCommit n now before after reason → MayNotCommit n old before after reason
lacked_before n old now before after reason whole sound number (inl may) = inl may
lacked_before n old now before after reason whole sound number (inr (no_number, inl lacks)) = inr (no_number, inl (subst (LacksNumbers n) number lacks))
lacked_before n old now before after reason whole sound number (inr (no_number, inr (leaf, u, is, above))) =
    ⊎_elim (λ same. inr (no_number, inr (leaf, u, sym same.0 ∙ is, above))) (λ w. let clash : None ≡ Some u = sym w.clean ∙ is in absurd cc)
    (whole.each leaf (subst (λ (s : State). IsLive s.homes s.covers leaf) whole.left (sound.unsaved leaf u is).live))

-- what lacks for some lacks for more
pub lacked_for_more : (few many : ℕ) (s : State) (before after : ℕ) (reason : Refusal) → few ≤ many → MayNotCommit few s before after reason → MayNotCommit many s before after reason
lacked_for_more few many s before after reason le (inl may) = inl may
lacked_for_more few many s before after reason le (inr (no_number, inl lacks)) = inr (no_number, inl (omega (arith, le, lacks)))
lacked_for_more few many s before after reason le (inr (no_number, inr above)) = inr (no_number, inr above)
