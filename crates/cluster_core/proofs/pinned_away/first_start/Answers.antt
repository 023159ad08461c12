use Rattle.cluster_core.proofs.Common.{DirPins, IsFirstAway, IsNextPinned, IsProposable, Leaf, None, Option, Rank, rules, sight_of, subst}
use Rattle.cluster_core.proofs.AwayLaws.{start_none, start_of}
use Rattle.cluster_core.proofs.PinsLaws.{unpinned_by}
use Rattle.cluster_core.proofs.pinned_away.first_start.Goals as goal

pub returns-then-is_none : goal.returns-then-is_none
returns-then-is_none g c = λ grants leaf event away.
    let t = c.args.tree.now.tree in
    unpinned_by t.pins t.homes c.next_pinned.result (search rules) (subst (λ (p : DirPins). IsNextPinned p None c.next_pinned.result) c.dirs.ensures.pins c.next_pinned.ensures) leaf.0.0 away.to away.pin

pub returns-in-Some : goal.returns-in-Some
returns-in-Some g c = λ grants.
    let s = sight_of c.args.tree.now grants c.args.ranks c.args.rank in
    start_of s (c.in-Some.leaf, c.in-Some.to)
    (subst (λ (o : Option (Leaf × Rank)). IsFirstAway s (IsProposable s) o) c.in-Some.is
    (c.lesser.ensures s (c.first_root-root.ensures grants) (c.first_pinned-pinned.ensures grants)))

pub returns-in-None : goal.returns-in-None
returns-in-None g c = λ grants.
    let s = sight_of c.args.tree.now grants c.args.ranks c.args.rank in
    start_none s
    (subst (λ (o : Option (Leaf × Rank)). IsFirstAway s (IsProposable s) o) c.in-None.is
    (c.lesser.ensures s (c.first_root-root.ensures grants) (c.first_pinned-pinned.ensures grants)))
