use Rattle.std.proofs.Common.{ap, refl, subst, sym, ◌∙◌}
use Rattle.cold_store.specs.ColdTree.{IsColdTree}
use Rattle.object_tables.proofs.SpelledLaws.{one_spelling}
use Rattle.kept_book.specs.Survives.{Survives}
use Rattle.kept_book.proofs.RunLaws.{on_disk}
use Rattle.kept_book.proofs.saving.kept_of.Goals as goal

pub returns-then-is_kept : goal.returns-then-is_kept
returns-then-is_kept g c =
    let is = c.store-store.ensures.objects ∙ ap (λ (core : _). core.state.tree.objects) c.cluster.ensures.cluster in
    let store = c.store-store.result.now in
    record {
      survives = λ clean.
          subst (Survives (g.T.Store.recovers store.tables)) is
          (λ db may.
          let it = c.if-is_kept.ensures.outcomes refl clean db may in
          (it, λ others spelled. one_spelling db others store.objects spelled it));
      on_disk = λ clean tree cold.
          on_disk (g.T.Store.recovers store.tables) store.objects tree (c.if-is_kept.ensures.outcomes refl clean) (subst (λ o. IsColdTree o tree) (sym is) cold)
          c.has_one_cold_tree.ensures;
    }
