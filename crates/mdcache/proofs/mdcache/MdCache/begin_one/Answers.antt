use Rattle.mds_types.specs.Leaf.{leaf_of}
use Rattle.mdcache.proofs.Common.{Core, IfErr-weaker, MayNotBeginOne, ap, here, state_of, sym, told_of_commit, ◌∙◌}
use Rattle.mdcache.proofs.BatchLaws.{begin_refused, either_keeps, refused_left, told_some, unclean_live}
use Rattle.mdcache.specs.Commits.{Begins}
use Rattle.std.specs.Prelude.{Err, is_some}
use Rattle.mdcache.proofs.mdcache.MdCache.begin_one.Goals as goal

pub unwrap-base-requires : goal.unwrap-base-requires
unwrap-base-requires g c =
    ap is_some (c.unsaved.ensures ∙ ap (λ (k : Core). told_of_commit (here k.caches c.args.at.now.rank.0 (leaf_of c.args.at.now))) c.self.view_is)
    ∙ told_some c.args.self.now.caches c.args.at.now.rank.0 (leaf_of c.args.at.now) c.requires.unclean.holds.alone c.requires.unclean.dirty

pub begin_unsaved-requires-clause-live : goal.begin_unsaved-requires-clause-live
begin_unsaved-requires-clause-live g c = unclean_live (state_of c.args.self.now) (leaf_of c.args.at.now) c.requires.sound.sound c.requires.unclean.dirty

pub begin_unsaved-requires-clause-told : goal.begin_unsaved-requires-clause-told
begin_unsaved-requires-clause-told g c =
    sym c.unwrap-base.ensures ∙ c.unsaved.ensures ∙ ap (λ (k : Core). told_of_commit (here k.caches c.args.at.now.rank.0 (leaf_of c.args.at.now))) c.self.view_is

pub returns-clause-left : goal.returns-clause-left
returns-clause-left g c = refused_left (state_of c.args.self.now) (state_of c.begin_unsaved.new.self) (leaf_of c.args.at.now) c.begin_unsaved.result c.begin_unsaved.ensures.refused

pub returns-clause-tree : goal.returns-clause-tree
returns-clause-tree g c =
    either_keeps c.args.self.now c.begin_unsaved.new.self c.args.at.now.rank (leaf_of c.args.at.now) c.requires.unclean.holds c.requires.unclean.dirty c.begin_unsaved.ensures.came c.begin_unsaved.result c.begin_unsaved.ensures.begun c.begin_unsaved.ensures.refused

pub returns-clause-refused : goal.returns-clause-refused
returns-clause-refused g c =
    IfErr-weaker c.begin_unsaved.result (λ reason. Begins (state_of c.args.self.now) (state_of c.begin_unsaved.new.self) (leaf_of c.args.at.now) (Err reason)) (MayNotBeginOne (state_of c.args.self.now) (leaf_of c.args.at.now))
    (λ reason refused. begin_refused (state_of c.args.self.now) (state_of c.begin_unsaved.new.self) (leaf_of c.args.at.now) reason c.requires.sound.sound c.requires.unclean.dirty c.requires.free refused) c.begin_unsaved.ensures.refused
