use Rattle.ranked_tree.proofs.Common.{Concerns, LacksPlacesFor, hash_of, held_in, leaf_of, result_err, subst, sym, ℕ}
use Rattle.ranked_tree.proofs.FragsLaws.{found_live, keeps_dir, looks_refused}
use Rattle.ranked_tree.proofs.frags.RankedTreeFrags.look.Goals as goal

pub returns-clause-kept : goal.returns-clause-kept
returns-clause-kept g c = keeps_dir c.self.inside.tree c.look.new.tree _ c.args.self.now c.self.view_is c.args._op.now c.args.dentry.now.dir (result_err c.look.result) c.requires.reads.0 c.look.ensures.kept c.look.ensures.reads

pub returns-clause-err : goal.returns-clause-err
returns-clause-err g c =
    let live = found_live c.self.inside.tree c.self.inside.regions c.args.self.now c.self.view_is c.self.invariant.owned.sound.sound c.args.at.now (c.args.dentry.now.dir.0, hash_of c.args.dentry.now.name, c.requires.at) in
    let concerns = subst (λ (d : ℕ). Concerns c.args._op.now d) (sym c.requires.at.dir) c.requires.reads.0 in
    looks_refused c.self.inside.tree c.look.new.tree c.self.inside.regions c.args.self.now c.self.view_is c.args._op.now c.look.result (LacksPlacesFor 1 c.self.inside.tree (held_in c.self.inside.regions) (leaf_of c.args.at.now))
    (λ lacks. (leaf_of c.args.at.now, concerns, live, lacks)) c.look.ensures.refused
