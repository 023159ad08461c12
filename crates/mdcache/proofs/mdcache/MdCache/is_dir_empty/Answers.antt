use Rattle.mdcache.proofs.Common.{Core, ap, count_of, told_none, shown_in, ◌==◌, ◌∙◌}
use Rattle.mdcache.proofs.mdcache.MdCache.is_dir_empty.Goals as goal

pub returns : goal.returns
returns g c =
    ap (λ n. n == 0) (c.count.ensures ∙ ap (λ (k : Core). count_of k.counts c.args.dir.0) c.self.view_is ∙ c.requires.sound.counted.each c.args.dir.0) ∙ told_none (shown_in c.args.self.now) c.args.dir.0
