use Rattle.cold_store.proofs.Common.{Names, ap, are_new, inr, loaded_fits, loaded_is_saved, loaded_shows, object_of, rows_of, sym, with_rows, ◌∙◌}
use Rattle.std.specs.FinMap as map
use Rattle.dentry_cache.specs.Calls.{calls_to_load}
use Rattle.cold_store.proofs.CallSteps.{then_added}
use Rattle.cold_store.proofs.Refusals.{added_refused, ok_then}
use Rattle.cold_store.proofs.reading.take_leaf.Goals as goal

pub into_names-requires : goal.into_names-requires
into_names-requires g c = loaded_fits c.args.frag (object_of (g.S.Store.objects c.args.store.now) c.args.dir c.args.frag) c.in-Ok.loaded c.in-Ok.ensures.loaded

pub returns-in-Ok-clause-good : goal.returns-in-Ok-clause-good
returns-in-Ok-clause-good g c =
    let object = object_of (g.S.Store.objects c.args.store.now) c.args.dir c.args.frag in
    let names = c.into_names.ensures.names ∙ loaded_shows c.args.frag object c.in-Ok.loaded c.in-Ok.ensures.loaded in
    ok_then c.add_names.result
    (λ new. record {
      whole = loaded_is_saved c.args.frag object c.in-Ok.loaded c.in-Ok.ensures.loaded;
      new = sym (ap (λ (n : Names). are_new c.args.found.now.shape (rows_of (c.args.dir, c.args.frag) (map.entries n))) names) ∙ new;
    })
    c.add_names.ensures.good

pub returns-in-Ok-clause-added : goal.returns-in-Ok-clause-added
returns-in-Ok-clause-added g c =
    let object = object_of (g.S.Store.objects c.args.store.now) c.args.dir c.args.frag in
    let names = c.into_names.ensures.names ∙ loaded_shows c.args.frag object c.in-Ok.loaded c.in-Ok.ensures.loaded in
    ok_then c.add_names.result (λ is. is ∙ ap (λ (n : Names). with_rows c.args.found.now.shape (rows_of (c.args.dir, c.args.frag) (map.entries n))) names) c.add_names.ensures.added

pub returns-in-Ok-clause-refused : goal.returns-in-Ok-clause-refused
returns-in-Ok-clause-refused g c =
    let object = object_of (g.S.Store.objects c.args.store.now) c.args.dir c.args.frag in
    let names = c.into_names.ensures.names ∙ loaded_shows c.args.frag object c.in-Ok.loaded c.in-Ok.ensures.loaded in
    added_refused c.add_names.result c.args.dir c.args.frag _ (g.S.Store.faults c.args.store.now) (g.S.Store.faults c.load.new.store)
    (λ name is old. (is, inr (sym (ap (λ (n : Names). are_new c.args.found.now.shape (rows_of (c.args.dir, c.args.frag) (map.entries n))) names) ∙ old))) c.add_names.ensures.refused

pub returns-in-Ok-clause-called : goal.returns-in-Ok-clause-called
returns-in-Ok-clause-called g c = then_added g.S.Store.IsCall (calls_to_load c.args.frag (object_of (g.S.Store.objects c.args.store.now) c.args.dir c.args.frag)) _ _ c.add_names.result c.args.dir c.args.frag _ c.add_names.ensures.refused c.in-Ok.ensures.called
