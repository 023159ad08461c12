-- What a crash leaves of a run, and what a mount of it shows.
use Rattle.std.proofs.Common.{◌≡◌, inl, inr, subst}
use Rattle.mds_types.specs.Tree.{Tree}
use Rattle.objstore.specs.Objects.{Objects}
use Rattle.cold_store.specs.ColdTree.{IsColdTree}
use Rattle.sqlite_trees.specs.Tree.{Trees}
use Rattle.object_tables.specs.Spelled.{SpellsObjects}
use Rattle.object_tables.proofs.SpelledLaws.{one_spelling}
use Rattle.kept_book.specs.Survives.{IsOnDisk}
use Rattle.kept_book.specs.Runs.{LeavesAFlush, begins, writes, flushes, settles}

pub leaves_a_flush : {T : Type 0} (recovers : T → Trees → Type 0) → LeavesAFlush recovers
leaves_a_flush recovers first _ last _ disk rows begins db may = inl (disk.mounts db may, rows db may)
leaves_a_flush recovers first _ last _ disk rows (writes tried now next run same) db may =
    leaves_a_flush recovers first now last tried disk rows run db (subst (λ t. recovers t db) same may)
leaves_a_flush recovers first _ last _ disk rows (flushes tried now next flush run cold crash) db may = elim (crash db may) [
  | inl was ↦ inr (leaves_a_flush recovers first now last tried disk rows run db was)
  | inr is ↦ inl (record { objects = next.objects; spelled = is.0; cold = cold }, is.1)
]
leaves_a_flush recovers first _ last _ disk rows (settles tried now next run fewer) db may =
    leaves_a_flush recovers first now last tried disk rows run db (fewer db may)

-- where whatever a crash leaves spells objects, their cold tree is on disk
pub on_disk : (recovers : Trees → Type 0) (objects : Objects) (tree : Tree) → ((db : Trees) → recovers db → SpellsObjects db objects) → IsColdTree objects tree
    → ((o : Objects) (s t : Tree) → IsColdTree o s → IsColdTree o t → s ≡ t) → IsOnDisk recovers tree
on_disk recovers objects tree spelled cold one = record {
  mounts = λ db may. record { objects = objects; spelled = spelled db may; cold = cold };
  alone = λ db may other m. one objects other tree (subst (λ o. IsColdTree o other) (one_spelling db m.objects objects m.spelled (spelled db may)) m.cold) cold;
}
