-- The rows are those that `names_after` lists, neighbours in the order of dentries.
use Rattle.plain_frags.proofs.Common.{None, Some, ap, contents, dentry_cmp, run, sym, ◌∙◌}
use Rattle.plain_frags.proofs.Rows.{names_run}
use Rattle.plain_frags.proofs.frags.rows_after.Goals as goal

pub returns-in-Some : goal.returns-in-Some
returns-in-Some c =
    rw c.in-Some.is (ap (run c.args.dir.0) c.iter_after.ensures ∙ sym (names_run (contents dentry_cmp c.args.entries.now) c.args.dir.0 (Some c.in-Some.name.now)))

pub returns-in-None : goal.returns-in-None
returns-in-None c =
    rw c.in-None.is (ap (run c.args.dir.0) c.iter_from.ensures ∙ sym (names_run (contents dentry_cmp c.args.entries.now) c.args.dir.0 None))
