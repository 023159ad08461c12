-- A leaf that is no root has its directory's answer, which the climb found.
use Rattle.export_regions.proofs.Common.{All-same, IsRightAnswer, leaf_of, ℕ}
use Rattle.export_regions.proofs.KnownLaws.{more_right, of_leaf}
use Rattle.export_regions.proofs.known_dirs.KnownDirs.is_in.Goals as goal

pub returns-clause-told : goal.returns-clause-told
returns-clause-told c =
    of_leaf c.args.subtrees.now.roots c.args.dirs.now.homes c.args.dirs.now.trees (leaf_of c.args.root.now) c.in_ok-told.told c.args.leaf.now c.in_default.ensures.unknown c.in_ok-told.ensures.told

pub returns-clause-right : goal.returns-clause-right
returns-clause-right c =
    more_right c.args.subtrees.now.roots c.args.dirs.now.homes c.args.dirs.now.trees (leaf_of c.args.root.now) c.deref.result.now c.in_ok-told.told c.args.self.now c.note.new.self c.requires.right
    (All-same (λ (d : ℕ). IsRightAnswer c.args.subtrees.now.roots c.args.dirs.now.homes c.args.dirs.now.trees (leaf_of c.args.root.now) d c.in_ok-told.told) c.deref.result.now c.climb.new.way.items c.deref.ensures.value c.in_ok-told.ensures.way)
    c.in_ok-note.ensures
