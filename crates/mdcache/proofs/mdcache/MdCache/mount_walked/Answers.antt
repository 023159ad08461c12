use Rattle.mdcache.proofs.Common.{ap, contents, dentry_cmp, key_cmp}
use Rattle.mdcache.proofs.MountLaws.{is_mounted}
use Rattle.mdcache.proofs.mdcache.MdCache.mount_walked.Goals as goal

pub returns-in-Ok-clause-made : goal.returns-in-Ok-clause-made
returns-in-Ok-clause-made g c =
    is_mounted c.args.limit (g.S.Store.objects c.args.store) c.args.ranks c.args.places (contents dentry_cmp c.of_walked.result.1.entries) (contents dentry_cmp c.args.walked.entries) c.args.walked.dirs.homes c.args.walked.dirs.trees c.args.walked.dirs.counts c.args.walked.dirs.pins (contents key_cmp c.args.walked.left) c.in-Ok.caches c.of_walked.result.0
    c.requires.walked c.requires.counted (ap (contents dentry_cmp) c.of_walked.ensures.entries) c.in-Ok.ensures.caches c.of_walked.ensures.caches c.of_walked.ensures.state
