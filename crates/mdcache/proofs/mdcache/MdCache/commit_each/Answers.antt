-- The jobs of all leaves begin, are encoded, and end.
use Rattle.mdcache.proofs.Common.{AllByRecursion, AreOfOtherLeaves, IsReadyWrite, LeavesOtherLeaves, State, ap, leaves_of_writes, state_of, subst, sym, unclean, ◌∙◌}
use Rattle.std.specs.Prelude.{OnOk}
use Rattle.mdcache.proofs.BatchLaws.{begun_ready, leaves_ready}
use Rattle.mdcache.proofs.CommittedLaws.{given_up_whole, whole_then}
use Rattle.mdcache.proofs.KeptTree.{steps_keep_tree}
use Rattle.mdcache.proofs.mdcache.MdCache.commit_each.Goals as goal

pub end_each-ended-requires-clause-begun : goal.end_each-ended-requires-clause-begun
end_each-ended-requires-clause-begun g c =
    subst (AllByRecursion (IsReadyWrite c.begin_each.new.self)) (sym (c.as_slice.ensures.value ∙ c.in-Ok-encode_each.ensures.encoded)) (begun_ready c.begin_each.new.self c.in-Ok.begun.items c.in-Ok.ensures.begun)

pub end_each-ended-requires-clause-apart : goal.end_each-ended-requires-clause-apart
end_each-ended-requires-clause-apart g c =
    subst AreOfOtherLeaves (sym (ap leaves_of_writes (c.as_slice.ensures.value ∙ c.in-Ok-encode_each.ensures.encoded) ∙ leaves_ready c.in-Ok.begun.items ∙ c.in-Ok.ensures.leaves)) c.requires.apart

pub returns-clause-whole : goal.returns-clause-whole
returns-clause-whole g c =
    whole_then (state_of c.args.self.now) (state_of c.begin_each.new.self) (state_of c.end_each-ended.new.self) (given_up_whole (state_of c.args.self.now) (state_of c.begin_each.new.self) _ _ c.in-Ok.ensures.left) c.end_each-ended.ensures.whole

pub returns-clause-tree : goal.returns-clause-tree
returns-clause-tree g c = steps_keep_tree c.args.self.now c.begin_each.new.self c.end_each-ended.new.self c.in-Ok.ensures.tree c.end_each-ended.ensures.tree

pub returns-clause-others : goal.returns-clause-others
returns-clause-others g c =
    let before = subst (λ m. OnOk c.end_each-ended.result (LeavesOtherLeaves (leaves_of_writes c.as_slice.result.now) m (unclean c.end_each-ended.new.self.caches))) (ap (λ (s : State). s.unsaved) c.in-Ok.ensures.left) c.end_each-ended.ensures.others in
    subst (λ ls. OnOk c.end_each-ended.result (LeavesOtherLeaves ls (unclean c.args.self.now.caches) (unclean c.end_each-ended.new.self.caches)))
    (ap leaves_of_writes (c.as_slice.ensures.value ∙ c.in-Ok-encode_each.ensures.encoded) ∙ leaves_ready c.in-Ok.begun.items ∙ c.in-Ok.ensures.leaves) before
