use Rattle.std.proofs.Common.{subst}
use Rattle.sqlite_trees.specs.View.{IsClean}
use Rattle.object_tables.specs.Noted.{Noted, has_key, has_name}
use Rattle.object_tables.specs.Spelled.{SpellsObjects, SpellsBut}
use Rattle.kept_store.specs.Kept.{KeptObjects}
use Rattle.kept_store.proofs.KeptLaws.{spells_all}
use Rattle.kept_store.proofs.kept.Kept.is_kept.Goals as goal

pub returns-clause-outcomes : goal.returns-clause-outcomes
returns-clause-outcomes g c empty =
    subst (λ (k : KeptObjects _). IsClean (g.T.Store.view k.tables) → (db : _) → g.T.Store.recovers k.tables db → SpellsObjects db k.objects) c.self.view_is
    (λ clean db may. spells_all db c.self.inside.objects
    (subst (λ (n : Noted). SpellsBut db c.self.inside.objects (has_name n) (has_key n)) (c.is_empty.ensures.0 empty) ((c.self.invariant clean).outcomes db may)))
