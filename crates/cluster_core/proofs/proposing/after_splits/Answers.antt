use Rattle.cluster_core.proofs.Common.{OfPin, OfSmall, [], sight_of, sym, ◌∷◌}
use Rattle.cluster_core.proofs.FirstLaws.{first_found, first_last, first_passed}
use Rattle.cluster_core.proofs.proposing.after_splits.Goals as goal

pub returns-then-is_some : goal.returns-then-is_some
returns-then-is_some g c =
    first_found (sight_of c.args.tree.now c.args.grants.now c.args.ranks c.args.rank) OfSmall (OfPin ∷ []) c.first_merge-merge.result (c.first_merge-merge.ensures c.args.ranks) (sym c.if-is_some.ensures)

pub returns : goal.returns
returns g c =
    let s = sight_of c.args.tree.now c.args.grants.now c.args.ranks c.args.rank in
    first_passed s OfSmall (OfPin ∷ []) c.first_merge-merge.result c.start_unless.result (c.first_merge-merge.ensures c.args.ranks) (sym c.if-is_some.ensures)
    (first_last s OfPin c.start_unless.result (c.start_unless.ensures c.args.grants.now c.requires.settled))
