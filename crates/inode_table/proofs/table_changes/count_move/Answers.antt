-- The count of another directory is what it was.
use Rattle.inode_table.proofs.Common.{DirTable, ap, count_of, false, not-true, subst, sym, ◌-◌, ◌<◌, ◌^◌, ◌∙◌, ◌≡◌}
use Rattle.std.specs.Prelude.{◌==◌}
use Rattle.inode_table.proofs.CountedLaws.{count_apart}
use Rattle.inode_table.proofs.table_changes.count_move.Goals as goal

pub entry_comes-requires-clause-few : goal.entry_comes-requires-clause-few
entry_comes-requires-clause-few c =
    let apart : (c.args.from.0 == c.args.to.0) ≡ false = not-true (c.args.from.0 == c.args.to.0) (sym c.if-ne.ensures) in
    subst (λ n. n < 2 ^ 64 - 1) (sym (ap (λ (t : DirTable). count_of t.counts c.args.to.0) c.entry_goes-then-ne.ensures ∙ count_apart c.args.dirs.now.counts c.args.from.0 _ c.args.to.0 apart)) (c.requires.few c.if-stood.false apart)
