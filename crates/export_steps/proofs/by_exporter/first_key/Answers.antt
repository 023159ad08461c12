use Rattle.export_steps.proofs.Common.{IsFirstKey, Leaf, None, Option, Some, by_cmp, comes, contents, subst, sym, ℕ}
use Rattle.export_steps.proofs.ByExporterLaws.{first_key}
use Rattle.export_steps.proofs.by_exporter.first_key.Goals as goal

pub returns-in-Some : goal.returns-in-Some
returns-in-Some c =
    subst (λ (after : Option Leaf). IsFirstKey (contents by_cmp c.args.by.now) (comes c.args.rank.0 after) c.key_of.result) (sym c.in-Some.is)
    (subst (λ (r : Option (ℕ × Leaf)). IsFirstKey (contents by_cmp c.args.by.now) (comes c.args.rank.0 (Some c.in-Some.root)) r) (sym c.key_of.ensures)
    (first_key (contents by_cmp c.args.by.now) (comes c.args.rank.0 (Some c.in-Some.root)) c.iter_after.result c.iter_after.ensures))

pub returns-in-None : goal.returns-in-None
returns-in-None c =
    subst (λ (after : Option Leaf). IsFirstKey (contents by_cmp c.args.by.now) (comes c.args.rank.0 after) c.key_of-in-None.result) (sym c.in-None.is)
    (subst (λ (r : Option (ℕ × Leaf)). IsFirstKey (contents by_cmp c.args.by.now) (comes c.args.rank.0 None) r) (sym c.key_of-in-None.ensures)
    (first_key (contents by_cmp c.args.by.now) (comes c.args.rank.0 None) c.iter_from.result c.iter_from.ensures))
