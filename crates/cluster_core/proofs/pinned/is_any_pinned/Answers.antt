use Rattle.cluster_core.proofs.Common.{Covers, Homes, IsAnyPinned, IsTrue, over, sym, ◌↔◌}
use Rattle.cluster_core.proofs.pinned.is_any_pinned.Goals as goal

pub returns : goal.returns
returns g c =
    over (λ (h : Homes) (cs : Covers). IsTrue c.some_pinned.result ↔ IsAnyPinned h cs c.args.pins.now c.args.dir c.args.frag)
    c.args.tree.now.tree.homes c.dirs.result.now.homes c.args.tree.now.tree.covers c.dirs.result.now.trees (sym c.dirs.ensures.homes) (sym c.dirs.ensures.trees) c.some_pinned.ensures
