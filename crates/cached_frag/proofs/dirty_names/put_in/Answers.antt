use Rattle.cached_frag.proofs.Common.{AreDirtyNames, contents, key_cmp, subst, sym}
use Rattle.cached_frag.proofs.MarkLaws.{one_dirty}
use Rattle.cached_frag.proofs.dirty_names.put_in.Goals as goal

pub returns-in_err-reserve-clause-dirty : goal.returns-in_err-reserve-clause-dirty
returns-in_err-reserve-clause-dirty c = subst AreDirtyNames (sym c.reserve.ensures.same) c.requires.dirty

pub returns-clause-dirty : goal.returns-clause-dirty
returns-clause-dirty c =
    one_dirty (contents key_cmp c.reserve.new.self) (contents key_cmp c.put_reserved.new.names) c.args.name c.args.mark (subst AreDirtyNames (sym c.reserve.ensures.same) c.requires.dirty) c.is_dirty.ensures
    c.put_reserved.ensures
