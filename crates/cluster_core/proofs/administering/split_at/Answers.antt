use Rattle.cluster_core.proofs.Common.{Err, LacksPlacesAt, LacksPlacesFor, RefusesSplit, arith, false, inr, leaves_free, leaves_of, rules, split_on, stays, sym, true, ◌+◌, ◌^◌, ◌∙◌, ◌≡◌}
use Rattle.mdcache.specs.Core.{state_of as tree_state}
use Rattle.cluster_core.proofs.AdminLaws.{lacks_here}
use Rattle.cluster_core.proofs.Worked.{left}
use Rattle.cluster_core.proofs.administering.split_at.Goals as goal

pub returns-in-Err-split-clause-split : goal.returns-in-Err-split-clause-split
returns-in-Err-split-clause-split g c numbers inboxes sessions past =
    let mine : c.has_authority.result ≡ true = search rules in
    let thawed : c.is_frozen.result ≡ false = search rules in
    let free : c.is_pinned.result ≡ false = search rules in (
      inr (inr (inr (inr (inr (
        c.in-Ok.ensures.known,
        c.in-Ok.ensures.can,
        c.has_authority.ensures.0 mine,
        (λ frozen. let clash : true ≡ false = sym (c.is_frozen.ensures.1 frozen) ∙ thawed in cc),
        (λ pinned. let clash : false ≡ true = sym free ∙ c.is_pinned.ensures ∙ pinned in cc),
        (split_on (LacksPlacesFor (2 ^ c.args.bits + 1) c.args.tree.now.tree c.args.tree.now.subtrees.roots (c.args.asked.now.dir, c.args.asked.now.frag)) (LacksPlacesAt (2 ^ c.args.bits + 1) c.args.tree.now.tree c.args.asked.now.rank) c.args.tree.now.tree c.split.new.self.tree c.args.asked.now.dir c.args.asked.now.frag c.args.bits (Err c.in-Err-split.refusal)
            (lacks_here (2 ^ c.args.bits + 1) c.args.tree.now.tree c.args.tree.now.subtrees.roots (c.args.asked.now.dir, c.args.asked.now.frag) c.args.asked.now.rank (c.has_authority.ensures.0 mine)) c.in-Err-split.ensures.split).0,
      ))))),
      left (tree_state c.args.tree.now.tree) (tree_state c.split.new.self.tree) c.args.tree.now.subtrees.roots c.split.new.self.subtrees.roots c.args.tree.now.exports c.split.new.self.exports c.in-Err-split.ensures.kept.stand numbers inboxes c.args.pins.now sessions past c.in-Err-split.ensures.split.1 c.in-Err-split.ensures.left,
    )

pub returns-in-Err-clause-counted : goal.returns-in-Err-clause-counted
returns-in-Err-clause-counted g c =
    let s = tree_state c.args.tree.now.tree in
    let Refuses = RefusesSplit (leaves_of s.covers c.args.asked.now.dir.0) c.args.asked.now.frag c.args.bits in
    omega (arith, leaves_free Refuses (λ never. never) s.homes c.args.asked.now.dir c.in-Err.refusal c.in-Err.ensures.refused)

pub returns-in-Err-clause-came : goal.returns-in-Err-clause-came
returns-in-Err-clause-came g c = stays

pub returns-then-not-has_authority-clause-came : goal.returns-then-not-has_authority-clause-came
returns-then-not-has_authority-clause-came g c = stays

pub returns-then-is_pinned-clause-came : goal.returns-then-is_pinned-clause-came
returns-then-is_pinned-clause-came g c = stays

pub returns-then-is_frozen-clause-came : goal.returns-then-is_frozen-clause-came
returns-then-is_frozen-clause-came g c = stays
