use Rattle.cluster_core.proofs.Common.{Err, LacksPlacesAt, LacksPlacesInside, RefusesMerge, arith, false, inr, leaves_free, leaves_of, merge_on, rules, stays, sym, true, ◌∙◌, ◌≡◌}
use Rattle.mdcache.specs.Core.{state_of as tree_state}
use Rattle.cluster_core.proofs.AdminLaws.{lacks_inside, one_of_all}
use Rattle.cluster_core.proofs.Worked.{left}
use Rattle.cluster_core.proofs.administering.merge_at.Goals as goal

pub merge-requires : goal.merge-requires
merge-requires g c =
    let mine : c.is_all_of.result ≡ true = search rules in
    let thawed : c.is_any_frozen.result ≡ false = search rules in
    record {
      known = c.in_default.ensures.known;
      can = c.in_default.ensures.can;
      one = one_of_all c.args.tree.now.tree.homes c.args.tree.now.tree.covers c.args.tree.now.subtrees.roots c.args.ino c.args.frag c.args.rank (c.is_all_of.ensures.0 mine);
      thawed = λ leaf inside live frozen. let clash : true ≡ false = sym (c.is_any_frozen.ensures.1 (leaf, live, inside, frozen)) ∙ thawed in cc;
    }

pub returns-in-Err-merge-clause-merged : goal.returns-in-Err-merge-clause-merged
returns-in-Err-merge-clause-merged g c numbers inboxes sessions past =
    let mine : c.is_all_of.result ≡ true = search rules in
    let thawed : c.is_any_frozen.result ≡ false = search rules in
    let free : c.is_any_pinned.result ≡ false = search rules in (
      inr (inr (inr (inr (inr (
        c.in_default.ensures.known,
        c.in_default.ensures.can,
        c.is_all_of.ensures.0 mine,
        (λ frozen. let clash : true ≡ false = sym (c.is_any_frozen.ensures.1 frozen) ∙ thawed in cc),
        (λ pinned. let clash : false ≡ true = sym free ∙ c.is_any_pinned.ensures.1 pinned in cc),
        (merge_on (LacksPlacesInside 1 c.args.tree.now.tree c.args.tree.now.subtrees.roots c.args.ino c.args.frag) (LacksPlacesAt 1 c.args.tree.now.tree c.args.rank) c.args.tree.now.tree c.merge.new.self.tree c.args.ino c.args.frag (Err c.in-Err-merge.refusal)
            (lacks_inside 1 c.args.tree.now.tree c.args.tree.now.subtrees.roots c.args.ino c.args.frag c.args.rank (c.is_all_of.ensures.0 mine)) c.in-Err-merge.ensures.merged).0,
      ))))),
      left (tree_state c.args.tree.now.tree) (tree_state c.merge.new.self.tree) c.args.tree.now.subtrees.roots c.merge.new.self.subtrees.roots c.args.tree.now.exports c.merge.new.self.exports c.in-Err-merge.ensures.kept.stand numbers inboxes c.args.pins.now sessions past c.in-Err-merge.ensures.merged.1 c.in-Err-merge.ensures.left,
    )

pub returns-in-Err-clause-counted : goal.returns-in-Err-clause-counted
returns-in-Err-clause-counted g c =
    let s = tree_state c.args.tree.now.tree in
    let Refuses = RefusesMerge (leaves_of s.covers c.args.ino.0) c.args.frag in
    omega (arith, leaves_free Refuses (λ never. never) s.homes c.args.ino c.in-Err.refusal c.in-Err.ensures.refused)

pub returns-in-Err-clause-came : goal.returns-in-Err-clause-came
returns-in-Err-clause-came g c = stays

pub returns-then-not-is_all_of-clause-came : goal.returns-then-not-is_all_of-clause-came
returns-then-not-is_all_of-clause-came g c = stays

pub returns-then-is_any_pinned-clause-came : goal.returns-then-is_any_pinned-clause-came
returns-then-is_any_pinned-clause-came g c = stays

pub returns-then-is_any_frozen-clause-came : goal.returns-then-is_any_frozen-clause-came
returns-then-is_any_frozen-clause-came g c = stays
