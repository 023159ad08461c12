-- Each turn commits the first batch of the leaves that are left.
use Rattle.mdcache.proofs.Common.{AllByRecursion, AreOfOtherLeaves, Dirfrag, IsUncleanAt, List, MayNotCommit, arith, leaves_of_places, length, refl, rules, state_of, subst, sym, ◌+◌, ◌∙◌, ◌≡◌, ◌≤◌}
use Rattle.mdcache.proofs.BatchLaws.{apart_first, commits_next}
use Rattle.mdcache.proofs.CommittedLaws.{given_up_whole, lacked_before, lacked_for_more, whole_then}
use Rattle.mdcache.proofs.KeptTree.{kept_itself, steps_keep_tree}
use Rattle.mdcache.proofs.PlacesLaws.{all_take}
use Rattle.mdcache.proofs.mdcache.MdCache.commit_listed.Goals as goal

pub loop-rest-init : goal.loop-rest-init
loop-rest-init g c = record {
  apart = c.requires.apart;
  dirty = c.requires.unclean;
  whole = given_up_whole (state_of c.args.self.now) (state_of c.args.self.now) c.args.self.now.jobs c.args.self.now.next_job refl;
  jobs = c.requires.none;
  number = refl;
  fewer = refl;
  tree = kept_itself c.args.self.now;
  faults = refl;
  sound = c.requires.sound;
}

pub commit_batch-requires-clause-apart : goal.commit_batch-requires-clause-apart
commit_batch-requires-clause-apart g c =
    λ κs lives. subst (λ (ps : List Dirfrag). AreOfOtherLeaves (leaves_of_places ps)) (sym c.split_at.ensures.front) (apart_first c.min.result c.loop-rest.rest.now c.loop-rest.invariant.apart)

pub commit_batch-requires-clause-unclean : goal.commit_batch-requires-clause-unclean
commit_batch-requires-clause-unclean g c =
    λ κs lives. subst (AllByRecursion (IsUncleanAt c.loop-rest.self.caches)) (sym c.split_at.ensures.front) (all_take (IsUncleanAt c.loop-rest.self.caches) c.min.result c.loop-rest.rest.now c.loop-rest.invariant.dirty)

pub returns-in-Err : goal.returns-in-Err
returns-in-Err g c =
    let inv = c.loop-rest.invariant in
    let e = c.in-Err.ensures in
    let few : length c.split_at.result.0.now ≤ 256 = omega (arith, c.split_at.ensures.front_len, c.min.ensures) in
    let more = lacked_for_more (length c.split_at.result.0.now) 256 (state_of c.loop-rest.self) c.loop-rest.self.faults c.commit_batch.new.self.faults c.in-Err.refusal few e.refused in
    let refused = subst (λ n. MayNotCommit 256 (state_of c.args.self.now) n c.commit_batch.new.self.faults c.in-Err.refusal) inv.faults
    (lacked_before 256 (state_of c.args.self.now) (state_of c.loop-rest.self) c.loop-rest.self.faults c.commit_batch.new.self.faults c.in-Err.refusal inv.whole inv.sound.sound inv.number more) in
    record {
      whole = whole_then (state_of c.args.self.now) (state_of c.loop-rest.self) (state_of c.commit_batch.new.self) inv.whole e.whole;
      jobs = e.jobs;
      number = e.number ∙ inv.number;
      fewer = tt;
      tree = steps_keep_tree c.args.self.now c.loop-rest.self c.commit_batch.new.self inv.tree e.tree;
      refused = refused;
      counted = search rules;
      sound = e.sound;
    }

pub loop-rest-preserved : goal.loop-rest-preserved
loop-rest-preserved g c =
    let e = c.in_default.ensures in
    let parts : length c.split_at.result.1.now + length c.split_at.result.0.now ≡ length c.loop-rest.rest.now = omega (arith, c.split_at.ensures.front_len, c.split_at.ensures.back_len) in
    let counted = e.counted in
    commits_next c.args.self.now c.loop-rest.self c.commit_batch.new.self c.args.leaves.now c.loop-rest.rest.now c.split_at.result.0.now c.split_at.result.1.now c.min.result c.split_at.ensures.front c.split_at.ensures.back parts c.loop-rest.invariant
    e.others e.tree e.whole e.jobs e.number e.fewer (omega (arith, counted)) e.sound
