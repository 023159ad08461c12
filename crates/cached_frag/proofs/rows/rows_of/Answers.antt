use Rattle.cached_frag.proofs.Common.{Some, contents, key_cmp, merged, ◌∙◌}
use Rattle.cached_frag.proofs.RowLaws.{all_rows_are, rows_are}
use Rattle.cached_frag.proofs.rows.rows_of.Goals as goal

pub returns-in-Some : goal.returns-in-Some
returns-in-Some c =
    rw c.in-Some.is ((λ i. merged ((c.new.ensures ∙ c.iter_after.ensures) i) ((c.new-in-Some.ensures ∙ c.iter_after-in-Some.ensures) i)) ∙ rows_are (contents key_cmp c.args.clean.now) (contents key_cmp c.args.dirty.now) (Some c.in-Some.name.now))

pub returns-in-None : goal.returns-in-None
returns-in-None c =
    rw c.in-None.is ((λ i. merged ((c.new-in-None.ensures ∙ c.iter.ensures) i) ((c.new-in-None-2.ensures ∙ c.iter-in-None.ensures) i)) ∙ all_rows_are (contents key_cmp c.args.clean.now) (contents key_cmp c.args.dirty.now))
