use Rattle.cluster_core.proofs.Common.{OfLarge, OfPin, OfSmall, [], sight_of, sym, ◌∷◌}
use Rattle.cluster_core.proofs.FirstLaws.{first_found, first_passed}
use Rattle.cluster_core.proofs.proposing.after_exports.Goals as goal

pub returns-then-is_some : goal.returns-then-is_some
returns-then-is_some g c =
    first_found (sight_of c.args.tree.now c.args.grants.now c.args.ranks c.args.rank) OfLarge (OfSmall ∷ OfPin ∷ []) c.first_split-split.result (c.first_split-split.ensures c.args.ranks) (sym c.if-is_some.ensures)

pub returns : goal.returns
returns g c =
    first_passed (sight_of c.args.tree.now c.args.grants.now c.args.ranks c.args.rank) OfLarge (OfSmall ∷ OfPin ∷ []) c.first_split-split.result c.after_splits.result
    (c.first_split-split.ensures c.args.ranks) (sym c.if-is_some.ensures) c.after_splits.ensures
