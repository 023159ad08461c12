-- A directory has as many entries as names are listed of it.
use Rattle.plain_frags.proofs.Common.{ap, contents, dentry_cmp, length, sym, ◌∙◌}
use Rattle.plain_frags.proofs.Counted.{entries_counted}
use Rattle.plain_frags.proofs.frags.entries_of.Goals as goal

pub returns : goal.returns
returns c = c.count_rows.ensures ∙ ap length c.rows_after.ensures ∙ sym (entries_counted (contents dentry_cmp c.args.entries.now) c.args.dir.0)
