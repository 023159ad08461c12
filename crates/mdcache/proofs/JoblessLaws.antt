-- All jobs are given up.
use Rattle.mdcache.proofs.KeptTree.{keeps_tree}
use Rattle.mdcache.proofs.SoundLaws.{jobs_sound}
use Rattle.mdcache.proofs.Common.{Core, IsSound, IsSoundCore, Jobs, KeepsTree, None, Rooms, Some, State, ap, get-empty, shown_tree, state_of, subst, sym, ℕ, ◌∙◌, ◌≡◌}
use Rattle.std.specs.FinMap as map

numbered_sound : (s : State) (n : ℕ) → IsSound s → IsSound (record s { jobs = map.empty; next_job = n })
numbered_sound s n sound = jobs_sound s map.empty n sound (λ q job is. let clash : None ≡ Some job = sym (get-empty _ q) ∙ is in absurd cc) (λ a b i j p q same. let clash : None ≡ Some i = sym (get-empty _ a) ∙ p in absurd cc)

-- the next one gets this number
module _ (old view : Core) (is : view ≡ old) (jobs : Jobs) (none : jobs ≡ map.empty) (room : Rooms) (n m : ℕ) (same : n ≡ m) where
  pub numbered : IsSoundCore old → (state_of (record view { jobs = jobs; room = room; next_job = n }) ≡ record (state_of old) { jobs = map.empty; next_job = m }) × IsSoundCore (record view { jobs = jobs; room = room; next_job = n })
      × KeepsTree old (record view { jobs = jobs; room = room; next_job = n })
  numbered sound =
      let now = subst IsSoundCore (sym is) sound in
      let left : state_of (record view { jobs = jobs; room = room; next_job = n }) ≡ record (state_of old) { jobs = map.empty; next_job = m } = λ i. record (state_of (is i)) { jobs = none i; next_job = same i } in (
        left,
        record {
          sound = subst IsSound (sym left) (numbered_sound (state_of old) m sound.sound);
          begun = now.begun;
          cached = λ q a at. let was = now.cached q a at in record { live = was.live; tied = was.tied; made = was.made };
          none = now.none;
        },
        keeps_tree old (record view { jobs = jobs; room = room; next_job = n }) (ap (λ (k : Core). k.caches) is) _ _ _ _ left (ap shown_tree left),
      )
