use Rattle.ranked_tree.proofs.Common.{NoMemory, RefusesSend, ap, inr, is_freezing, is_imported, refl, state_of}
use Rattle.ranked_tree.proofs.SendLaws.{held_here, refused_so, refuses, sent_so, versions_here}
use Rattle.ranked_tree.proofs.sending.region_bytes.Goals as goal

pub export_of-requires-clause-held : goal.export_of-requires-clause-held
export_of-requires-clause-held g c =
    held_here c.args.tree.now c.args.regions.now c.args.root.now c.args.export _ _ _ c.caches-caches.ensures c.dirs-dirs.ensures.homes c.dirs-dirs.ensures.trees c.requires.divided c.requires.stands (ap is_freezing c.requires.prepared) (ap is_imported c.requires.prepared)

pub export_of-requires-clause-versions : goal.export_of-requires-clause-versions
export_of-requires-clause-versions g c =
    versions_here c.args.tree.now c.args.regions.now c.args.root.now c.args.export _ _ _ c.caches-caches.ensures c.dirs-dirs.ensures.homes c.dirs-dirs.ensures.trees c.requires.divided.owned.sound

pub returns-in_err-sent-clause-refused : goal.returns-in_err-sent-clause-refused
returns-in_err-sent-clause-refused g c =
    refuses (RefusesSend (state_of c.args.tree.now) c.args.regions.now.roots.roots c.args.regions.now.exports c.args.root.now) c.from_residual.result c.in_err-sent.field-0.0 c.from_residual.ensures.1
    (refused_so c.args.tree.now c.args.regions.now c.args.root.now c.args.export _ _ _ c.caches-caches.ensures c.dirs-dirs.ensures.homes c.dirs-dirs.ensures.trees c.requires.stands c.requires.prepared c.in_err-sent.field-0.0 c.in_err-sent.ensures.refused)

pub returns-in_err-encoded-clause-refused : goal.returns-in_err-encoded-clause-refused
returns-in_err-encoded-clause-refused g c =
    refuses (RefusesSend (state_of c.args.tree.now) c.args.regions.now.roots.roots c.args.regions.now.exports c.args.root.now) c.from_residual-in_err-encoded.result NoMemory
    c.from_residual-in_err-encoded.ensures.1
    (refused_so c.args.tree.now c.args.regions.now c.args.root.now c.args.export _ _ _ c.caches-caches.ensures c.dirs-dirs.ensures.homes c.dirs-dirs.ensures.trees c.requires.stands c.requires.prepared NoMemory (inr (refl, c.in_ok-sent.ensures.counted)))

pub returns-clause-sent : goal.returns-clause-sent
returns-clause-sent g c =
    sent_so c.args.tree.now c.args.regions.now c.args.root.now c.args.export _ _ _ c.caches-caches.ensures c.dirs-dirs.ensures.homes c.dirs-dirs.ensures.trees c.requires.stands c.requires.prepared
    c.in_ok-encoded.field-0 c.in_ok-sent.sent c.in_ok-encoded.ensures c.in_ok-sent.ensures.sent
