use Rattle.dentry_cache.proofs.Common.{AreChildren, AreFillable, List, Part, ap, contents, here, key_cmp, subst, sym, with_parts, ◌∙◌}
use Rattle.dentry_cache.proofs.PartsLaws.{are_fillable, split_so}
use Rattle.dentry_cache.proofs.SplitShows.{ready_of}
use Rattle.dentry_cache.proofs.caches.Caches.split_into.Goals as goal

pub fill_all-requires-clause-kept : goal.fill_all-requires-clause-kept
fill_all-requires-clause-kept c =
    let ready = ready_of c.args.at.frag c.args.bits (contents key_cmp c.give_names-names.result) c.args.parts (here c.args.self.now c.args.at.rank.0 (c.args.at.dir, c.args.at.frag)) c.requires.ready c.give_names-names.ensures.names in
    subst (AreFillable c.args.at.rank.0 c.args.at.dir c.divide.new.parts.items) (sym c.give_names-names.ensures.without)
    (are_fillable c.args.at.rank.0 c.args.at.dir c.args.at.frag c.args.bits c.args.version (contents key_cmp c.give_names-names.result) c.args.parts c.divide.new.parts.items c.args.self.now c.requires.some ready.count
    (subst (λ (parts : List Part). AreChildren c.args.at.frag c.args.bits (contents key_cmp c.give_names-names.result) c.args.version parts c.divide.new.parts.items) c.parts.view_is c.divide.ensures) c.requires.kept)

pub returns : goal.returns
returns c =
    split_so c.args.at.rank.0 c.args.at.dir c.args.at.frag c.args.bits c.args.parts c.divide.new.parts.items c.args.version (contents key_cmp c.give_names-names.result) c.args.self.now c.fill_all.new.self (here c.args.self.now c.args.at.rank.0 (c.args.at.dir, c.args.at.frag)) c.give_names-names.ensures.names
    (subst (λ (parts : List Part). AreChildren c.args.at.frag c.args.bits (contents key_cmp c.give_names-names.result) c.args.version parts c.divide.new.parts.items) c.parts.view_is c.divide.ensures)
    (c.fill_all.ensures ∙ ap (with_parts c.args.at.dir c.args.at.rank.0 c.divide.new.parts.items) c.give_names-names.ensures.without)
