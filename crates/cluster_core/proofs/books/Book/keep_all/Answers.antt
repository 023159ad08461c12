-- The sessions are kept by the edits of the cluster.
use Rattle.cluster_core.proofs.Common.{KeptState, subst, ◌∙◌}
use Rattle.std.proofs.lemmas.Result.{IfOk-weaker}
use Rattle.cluster_core.specs.KeptSessions.{Updates, WritesAll}
use Rattle.cluster_core.proofs.StoringLaws.{told_all}
use Rattle.cluster_core.proofs.books.Book.keep_all.Goals as goal

pub edits-requires : goal.edits-requires
edits-requires g c = let k = c.self.invariant.sound in (k.0, k.1, rw c.as_slice.ensures.value k.2.behind)

pub returns-in-Ok-clause-sessions : goal.returns-in-Ok-clause-sessions
returns-in-Ok-clause-sessions g c has = IfOk-weaker c.keep-in-Ok.result _ _
    (λ s took.
    let b = c.self.inside in
    record {
      edits = c.in-Ok.edits.items;
      taken = rw (← c.as_slice-in-Ok.ensures.value) took;
      updates = subst (λ (k : KeptState). Updates k c.in-Ok.edits.items) c.self.view_is
          (told_all (record { opening = b.opening; history = b.history.items; core = b.cluster }) c.in-Ok.edits.items (rw (← c.as_slice.ensures.value) c.in-Ok.ensures));
    })
    c.keep-in-Ok.ensures.taken
