use Rattle.dentry_cache.proofs.Common.{None, Objects, Option, Some, ap, pairs_left, refl, subst, sym}
use Rattle.std.specs.FinMap as map
use Rattle.std.proofs.lemmas.Result.{err_from_is_err_and}
use Rattle.mds_types.specs.declared.refusals.Refusal.{Refusal}
use Rattle.mds_types.specs.declared.refusals.Refusal.TheVariants.{NoMemory}
use Rattle.dentry_cache.specs.Calls.{AreCalls, calls_to_load, pages_read}
use Rattle.dentry_cache.proofs.CallLaws.{ends_early, goes_on, header_alone, header_first, memory_not, told_then}
use Rattle.dentry_cache.proofs.LoadLaws.{entries_read, loaded_is, no_header, no_names}
use Rattle.dentry_cache.proofs.loading.load_object.Goals as goal

pub returns-in_default-clause-loaded : goal.returns-in_default-clause-loaded
returns-in_default-clause-loaded g c = no_header c.args.frag _ (rw c.in_default.is at c.in_ok-header.ensures.read)

pub returns-in_default-2-clause-loaded : goal.returns-in_default-2-clause-loaded
returns-in_default-2-clause-loaded g c =
    no_names c.args.frag _ (map.get (g.S.Store.objects c.read_header.new.store) c.args.text.now) (ap (λ (o : Objects). map.get o c.args.text.now) c.read_header.ensures.same) (rw c.in_default-2.is at c.in_ok-names.ensures.read)

pub stored-requires : goal.stored-requires
stored-requires g c = entries_read c.args.frag (map.get (g.S.Store.objects c.read_header.new.store) c.args.text.now) c.in-Some-2.names (rw c.in-Some-2.is at c.in_ok-names.ensures.read)

pub returns-clause-loaded : goal.returns-clause-loaded
returns-clause-loaded g c =
    loaded_is c.args.frag _ (map.get (g.S.Store.objects c.read_header.new.store) c.args.text.now) c.in-Some-2.names c.in-Some.header _ c.counted.result (ap (λ (o : Objects). map.get o c.args.text.now) c.read_header.ensures.same)
    (rw c.in-Some.is at c.in_ok-header.ensures.read) (rw c.in-Some-2.is at c.in_ok-names.ensures.read) c.in_ok-loaded.ensures c.counted.ensures

pub returns-in_err-header-clause-called : goal.returns-in_err-header-clause-called
returns-in_err-header-clause-called g c =
    let p = err_from_is_err_and c.from_residual.result c.from_residual.ensures.1 in
    rw (p.1, p.2) (ends_early g.S.Store.IsCall _ c.args.store.now c.read_header.new.store c.in_err-header.field-0.0 _ _ c.in_err-header.ensures.refused c.in_err-header.ensures.called)

pub returns-in_default-clause-called : goal.returns-in_default-clause-called
returns-in_default-clause-called g c =
    subst (λ n. AreCalls g.S.Store.IsCall n c.args.store.now None c.read_header.new.store) (sym (header_alone c.args.frag (map.get (g.S.Store.objects c.args.store.now) c.args.text.now) (rw c.in_default.is at c.in_ok-header.ensures.value)))
    c.in_ok-header.ensures.called

pub returns-in_err-names-clause-called : goal.returns-in_err-names-clause-called
returns-in_err-names-clause-called g c =
    let p = err_from_is_err_and c.from_residual-in_err-names.result c.from_residual-in_err-names.ensures.1 in
    let told : Option Refusal = Some c.in_err-names.field-0.0 in
    rw (p.1, p.2) (subst (λ n. AreCalls g.S.Store.IsCall n c.args.store.now told c.read_names.new.store) (sym (header_first c.args.frag (map.get (g.S.Store.objects c.args.store.now) c.args.text.now) c.in-Some.header (rw c.in-Some.is at c.in_ok-header.ensures.value)))
    (goes_on g.S.Store.IsCall (pages_read c.args.frag (pairs_left (map.get (g.S.Store.objects c.args.store.now) c.args.text.now) None)) c.args.store.now c.read_header.new.store c.read_names.new.store told c.in_ok-header.ensures.called
    (subst (λ (o : Objects). AreCalls g.S.Store.IsCall (pages_read c.args.frag (pairs_left (map.get o c.args.text.now) None)) c.read_header.new.store told c.read_names.new.store) c.read_header.ensures.same c.in_err-names.ensures.called)))

pub returns-in_default-2-clause-called : goal.returns-in_default-2-clause-called
returns-in_default-2-clause-called g c =
    subst (λ n. AreCalls g.S.Store.IsCall n c.args.store.now None c.read_names.new.store) (sym (header_first c.args.frag (map.get (g.S.Store.objects c.args.store.now) c.args.text.now) c.in-Some.header (rw c.in-Some.is at c.in_ok-header.ensures.value)))
    (goes_on g.S.Store.IsCall (pages_read c.args.frag (pairs_left (map.get (g.S.Store.objects c.args.store.now) c.args.text.now) None)) c.args.store.now c.read_header.new.store c.read_names.new.store None c.in_ok-header.ensures.called
    (subst (λ (o : Objects). AreCalls g.S.Store.IsCall (pages_read c.args.frag (pairs_left (map.get o c.args.text.now) None)) c.read_header.new.store None c.read_names.new.store) c.read_header.ensures.same c.in_ok-names.ensures.called))

pub returns-in_err-loaded-clause-called : goal.returns-in_err-loaded-clause-called
returns-in_err-loaded-clause-called g c =
    let p = err_from_is_err_and c.from_residual-in_err-loaded.result c.from_residual-in_err-loaded.ensures.1 in
    rw (p.1, p.2) (told_then g.S.Store.IsCall (calls_to_load c.args.frag (map.get (g.S.Store.objects c.args.store.now) c.args.text.now)) c.args.store.now c.read_names.new.store (Some NoMemory) memory_not
    (subst (λ n. AreCalls g.S.Store.IsCall n c.args.store.now None c.read_names.new.store) (sym (header_first c.args.frag (map.get (g.S.Store.objects c.args.store.now) c.args.text.now) c.in-Some.header (rw c.in-Some.is at c.in_ok-header.ensures.value)))
    (goes_on g.S.Store.IsCall (pages_read c.args.frag (pairs_left (map.get (g.S.Store.objects c.args.store.now) c.args.text.now) None)) c.args.store.now c.read_header.new.store c.read_names.new.store None c.in_ok-header.ensures.called
    (subst (λ (o : Objects). AreCalls g.S.Store.IsCall (pages_read c.args.frag (pairs_left (map.get o c.args.text.now) None)) c.read_header.new.store None c.read_names.new.store) c.read_header.ensures.same c.in_ok-names.ensures.called))))

pub returns-clause-called : goal.returns-clause-called
returns-clause-called g c =
    subst (λ n. AreCalls g.S.Store.IsCall n c.args.store.now None c.read_names.new.store) (sym (header_first c.args.frag (map.get (g.S.Store.objects c.args.store.now) c.args.text.now) c.in-Some.header (rw c.in-Some.is at c.in_ok-header.ensures.value)))
    (goes_on g.S.Store.IsCall (pages_read c.args.frag (pairs_left (map.get (g.S.Store.objects c.args.store.now) c.args.text.now) None)) c.args.store.now c.read_header.new.store c.read_names.new.store None c.in_ok-header.ensures.called
    (subst (λ (o : Objects). AreCalls g.S.Store.IsCall (pages_read c.args.frag (pairs_left (map.get o c.args.text.now) None)) c.read_header.new.store None c.read_names.new.store) c.read_header.ensures.same c.in_ok-names.ensures.called))
