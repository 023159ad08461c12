-- A store that took edits has all objects in its tables.
use Rattle.std.proofs.Common.{subst}
use Rattle.object_tables.specs.Noted.{Noted, has_key, has_name}
use Rattle.object_tables.specs.Spelled.{SpellsBut}
use Rattle.kept_store.proofs.KeptLaws.{spells_all}
use Rattle.kept_store.proofs.kept.KeptKeep.keep.Goals as goal

pub returns-in-Ok-clause-taken : goal.returns-in-Ok-clause-taken
returns-in-Ok-clause-taken g c =
    let new = c.keep.new.self in
    record {
      kept = c.in-Ok.ensures.kept;
      objects = c.keep.ensures.objects;
      spelled = λ clean db may. spells_all db new.objects
          (subst (λ (n : Noted). SpellsBut db new.objects (has_name n) (has_key n)) c.in-Ok.ensures.kept ((c.is_mirrored.ensures clean).outcomes db may));
      rows = c.in-Ok.ensures.rows;
      clean = c.keep.ensures.clean;
    }
