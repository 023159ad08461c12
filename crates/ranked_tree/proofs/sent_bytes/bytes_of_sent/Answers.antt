use Rattle.ranked_tree.proofs.Common.{NoMemory, ap, inr, is_freezing, is_imported, refl, state_of}
use Rattle.ranked_tree.specs.SentBytes.{RefusesSentBytes}
use Rattle.ranked_tree.proofs.SendLaws.{held_here, refuses, versions_here}
use Rattle.ranked_tree.proofs.SentBytesLaws.{told_so, untold_so}
use Rattle.ranked_tree.proofs.sent_bytes.bytes_of_sent.Goals as goal

pub export_of-requires-clause-held : goal.export_of-requires-clause-held
export_of-requires-clause-held g c =
    held_here c.args.tree.now c.args.regions.now (c.args.dir, c.args.frag) c.in-Some.export _ _ _ c.caches-caches.ensures c.dirs-dirs.ensures.homes c.dirs-dirs.ensures.trees c.requires.divided c.in-Some.ensures.export.0 (ap is_freezing c.in-Some.ensures.export.1) (ap is_imported c.in-Some.ensures.export.1)

pub export_of-requires-clause-versions : goal.export_of-requires-clause-versions
export_of-requires-clause-versions g c =
    versions_here c.args.tree.now c.args.regions.now (c.args.dir, c.args.frag) c.in-Some.export _ _ _ c.caches-caches.ensures c.dirs-dirs.ensures.homes c.dirs-dirs.ensures.trees c.requires.divided.owned.sound

pub returns-in_err-sent-clause-refused : goal.returns-in_err-sent-clause-refused
returns-in_err-sent-clause-refused g c =
    refuses (RefusesSentBytes (state_of c.args.tree.now) c.args.regions.now.roots.roots c.args.regions.now.exports (c.args.dir, c.args.frag)) c.from_residual.result c.in_err-sent.field-0.0 c.from_residual.ensures.1
    (untold_so c.args.tree.now c.args.regions.now (c.args.dir, c.args.frag) c.in-Some.export _ _ _ c.caches-caches.ensures c.dirs-dirs.ensures.homes c.dirs-dirs.ensures.trees c.in-Some.ensures.export.0 c.in-Some.ensures.export.1 c.in_err-sent.field-0.0 c.in_err-sent.ensures.refused)

pub returns-in_err-encoded-clause-refused : goal.returns-in_err-encoded-clause-refused
returns-in_err-encoded-clause-refused g c =
    refuses (RefusesSentBytes (state_of c.args.tree.now) c.args.regions.now.roots.roots c.args.regions.now.exports (c.args.dir, c.args.frag)) c.from_residual-in_err-encoded.result NoMemory
    c.from_residual-in_err-encoded.ensures.1
    (untold_so c.args.tree.now c.args.regions.now (c.args.dir, c.args.frag) c.in-Some.export _ _ _ c.caches-caches.ensures c.dirs-dirs.ensures.homes c.dirs-dirs.ensures.trees c.in-Some.ensures.export.0 c.in-Some.ensures.export.1 NoMemory (inr (refl, c.in_ok-sent.ensures.counted)))

pub returns-clause-spelled : goal.returns-clause-spelled
returns-clause-spelled g c =
    told_so c.args.tree.now c.args.regions.now (c.args.dir, c.args.frag) c.in-Some.export _ _ _ c.caches-caches.ensures c.dirs-dirs.ensures.homes c.dirs-dirs.ensures.trees c.in-Some.ensures.export.0 c.in-Some.ensures.export.1
    c.in_ok-encoded.field-0 c.in_ok-sent.sent c.in_ok-encoded.ensures c.in_ok-sent.ensures.sent
