use Rattle.export_regions.proofs.Common.{IsOfRegion, leaf_of}
use Rattle.export_regions.proofs.WhereLaws.{any_is}
use Rattle.export_regions.proofs.counts.has_too_many.Goals as goal

pub returns : goal.returns
returns c =
    let same = any_is (IsOfRegion c.args.subtrees.now.roots c.args.dirs.now.homes c.args.dirs.now.trees (leaf_of c.args.root)) c.args.caches.now c.args.root.rank.0 c.requires.held c.any_too_many.ensures.valid in
    (λ told. same.0 (c.any_too_many.ensures.any.0 told), λ has. c.any_too_many.ensures.any.1 (same.1 has))
