use Rattle.dentry_cache.proofs.Common.{None, Some, object_of, subst, ◌∙◌}
use Rattle.std.specs.FinMap as map
use Rattle.mds_types.specs.declared.object_names.ObjName.TheVariants.{Frag as FragOf}
use Rattle.mds_types.specs.declared.refusals.Refusal.TheVariants.{Damaged}
use Rattle.dentry_cache.specs.Calls.{AreCalls, calls_to_load}
use Rattle.dentry_cache.proofs.CallLaws.{damaged_not, told_then}
use Rattle.dentry_cache.proofs.loading.load.Goals as goal

pub returns-in-None-clause-called : goal.returns-in-None-clause-called
returns-in-None-clause-called g c =
    let objects = g.S.Store.objects c.args.store.now in
    told_then g.S.Store.IsCall (calls_to_load c.args.frag (object_of objects c.args.dir c.args.frag)) c.args.store.now c.load_object.new.store (Some (Damaged (FragOf c.args.dir c.args.frag))) (damaged_not (FragOf c.args.dir c.args.frag))
    (subst (λ n. AreCalls g.S.Store.IsCall (calls_to_load c.args.frag (map.get objects n)) c.args.store.now None c.load_object.new.store) (c.as_str.ensures ∙ c.of-text.ensures) c.in_ok-loaded.ensures.called)
