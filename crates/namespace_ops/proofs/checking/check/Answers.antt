use Rattle.namespace_ops.proofs.Common.{Checks, IfOk, Lookup, Readdir, Readlink, Rename, Rmdir, SetPin, Setattr, Unlink, names_after, page, refl, subst}
use Rattle.namespace_ops.proofs.CheckedParts.{main_at, source_at, step_at, step_from}
use Rattle.namespace_ops.proofs.checking.check.Goals as goal

pub returns-in-Lookup-clause-checked : goal.returns-in-Lookup-clause-checked
returns-in-Lookup-clause-checked g c = step_at _ _ _ _ (Lookup c.in-Lookup.dentry) c.in-Lookup.is c.args.limit c.args.number.0 _ c.args.places c.in-Some.at c.requires c.in-Some.is refl (c.lookup.ensures.checked c.args.number.0)

pub returns-in-Readlink-clause-checked : goal.returns-in-Readlink-clause-checked
returns-in-Readlink-clause-checked g c = step_at _ _ _ _ (Readlink c.in-Readlink.dentry) c.in-Readlink.is c.args.limit c.args.number.0 _ c.args.places c.in-Some.at c.requires c.in-Some.is refl (c.read_link.ensures.checked c.args.number.0)

pub returns-in-Setattr-clause-checked : goal.returns-in-Setattr-clause-checked
returns-in-Setattr-clause-checked g c = step_at _ _ _ _ (Setattr c.in-Setattr.dentry c.in-Setattr.attributes) c.in-Setattr.is c.args.limit c.args.number.0 _ c.args.places c.in-Some.at c.requires c.in-Some.is refl (rw (← c.get.ensures) (c.alter.ensures.checked c.args.number.0))

pub returns-in-SetPin-clause-checked : goal.returns-in-SetPin-clause-checked
returns-in-SetPin-clause-checked g c = step_at _ _ _ _ (SetPin c.in-SetPin.dentry c.in-SetPin.pin) c.in-SetPin.is c.args.limit c.args.number.0 _ c.args.places c.in-Some.at c.requires c.in-Some.is refl (c.alter-in-SetPin.ensures.checked c.args.number.0)

pub returns-in-Unlink-clause-checked : goal.returns-in-Unlink-clause-checked
returns-in-Unlink-clause-checked g c = step_at _ _ _ _ (Unlink c.in-Unlink.dentry) c.in-Unlink.is c.args.limit c.args.number.0 _ c.args.places c.in-Some.at c.requires c.in-Some.is refl (c.unlink.ensures.checked c.args.number.0)

pub returns-in-Rmdir-clause-checked : goal.returns-in-Rmdir-clause-checked
returns-in-Rmdir-clause-checked g c = step_at _ _ _ _ (Rmdir c.in-Rmdir.dentry) c.in-Rmdir.is c.args.limit c.args.number.0 _ c.args.places c.in-Some.at c.requires c.in-Some.is refl (c.remove_dir.ensures.checked c.args.number.0)

pub returns-in-Readdir-clause-checked : goal.returns-in-Readdir-clause-checked
returns-in-Readdir-clause-checked g c =
    step_at _ _ _ _ (Readdir c.in-Readdir.dir c.in-Readdir.after c.in-Readdir.max) c.in-Readdir.is c.args.limit c.args.number.0 _ c.args.places c.in-Some.at c.requires c.in-Some.is refl
    (subst
    (λ after. IfOk c.read_dir.result (Checks (g.F.Frags.content c.args.frags.now) (g.F.Frags.covers c.args.frags.now) (g.F.Frags.Holds c.args.frags.now) c.args.op.now c.args.number.0
    (page (g.F.Frags.content c.args.frags.now) c.in-Readdir.max (names_after (g.F.Frags.content c.args.frags.now) c.in-Readdir.dir.0 after))))
    c.as_ref.ensures.value (c.read_dir.ensures.checked c.args.number.0))

pub returns-in-Some-source-clause-checked : goal.returns-in-Some-source-clause-checked
returns-in-Some-source-clause-checked g c =
    let op = Rename c.in-Rename.from c.in-Rename.to in
    let there = main_at _ _ _ _ op c.in-Rename.is c.args.places c.in-Some.at c.requires c.in-Some.is in
    let from = source_at _ _ _ _ c.in-Rename.from c.in-Rename.to c.args.places c.in-Some-source.source c.in-Rename.is c.requires c.in-Some-source.is in
    step_from _ _ _ _ op c.in-Rename.is c.args.limit c.args.number.0 _ from.at.stands there.at.stands (c.rename.ensures.checked c.args.number.0)
