-- A directory that comes counts no entry.
use Rattle.cold_store.proofs.Common.{Counts, DirPins, IsCounted, ap, none_with, subst, sym, with_count, ◌∙◌}
use Rattle.std.specs.FinMap as map
use Rattle.cold_store.proofs.found.Found.add.Goals as goal

pub invariant_of-self-2 : goal.invariant_of-self-2
invariant_of-self-2 c =
    subst (IsCounted map.empty c.adopt_dir.new.dirs.counts) (sym (c.adopt_dir.ensures.pins ∙ c.in_ok-spare.ensures.pins))
    (subst (λ (n : Counts). IsCounted map.empty n c.self.inside.dirs.pins) (sym (c.adopt_dir.ensures.counts ∙ ap (λ (n : Counts). with_count n c.args.inode) c.in_ok-spare.ensures.counts))
    (none_with c.self.inside.dirs.counts c.self.inside.dirs.pins c.args.inode c.self.invariant))
