-- A directory below the root is one that has a row.
use Rattle.std.proofs.Common.{Bor, None, Option, Some, refl, ◌≡◌}
use Rattle.std.specs.Prelude.{is_some}
use Rattle.inode_table.proofs.Common.{ap, option_copied, ◌∙◌}
use Rattle.inode_table.proofs.Chains.{are_apart}
use Rattle.inode_table.proofs.RowLaws.{known_row}
use Rattle.inode_table.proofs.dirs.Dirs.contains.Goals as goal

is_some-copied : {T : Type 0} (o : Option (Bor T)) → is_some o ≡ is_some (option_copied o)
is_some-copied None = refl
is_some-copied (Some row) = refl

pub returns-else-eq-clause-known : goal.returns-else-eq-clause-known
returns-else-eq-clause-known c =
    rw (← c.self.view_is) (c.is_some.ensures ∙ is_some-copied c.get_near_noting.result ∙ ap is_some c.get_near_noting.ensures ∙ known_row c.self.inside.root _ c.args.dir.0 (are_apart _ _ c.if-eq.ensures))
