use Rattle.subtree_map.proofs.Common.{AreFilled, Fragment, IsLostRank, IsSome, List, Subtrees, leaves_of, length, refl, subst, sym, ◌≤◌}
use Rattle.subtree_map.proofs.Moved.{moves_soundly}
use Rattle.subtree_map.proofs.Settled.{settled_filled, settled_none}
use Rattle.subtree_map.proofs.subtrees.Subtrees.after_rename.Goals as goal

pub fill-requires : goal.fill-requires
fill-requires c = record { room = subst (λ (s : Subtrees). length (leaves_of c.args.dirs.now.trees c.args.dir.0) ≤ s.room) (sym c.self.view_is) (c.requires.room (subst IsSome (sym c.in-Some.is) refl)) }

pub returns-in-Some-clause-roots : goal.returns-in-Some-clause-roots
returns-in-Some-clause-roots c homes covers home same may lost =
    settled_filled c.args.self.now.roots homes covers c.args.dir.0 home _ c.in-Some.rank may (subst (IsLostRank c.args.self.now.roots homes covers c.args.dir.0 home) c.in-Some.is lost)
    (subst (λ (l : List Fragment). AreFilled c.args.self.now.roots c.fill.new.roots.roots c.args.dir.0 l c.in-Some.rank) (sym same)
    (subst (λ (s : Subtrees). AreFilled s.roots c.fill.new.roots.roots c.args.dir.0 (leaves_of c.args.dirs.now.trees c.args.dir.0) c.in-Some.rank) c.self.view_is c.fill.ensures.filled))

pub returns-in-Some-clause-authority : goal.returns-in-Some-clause-authority
returns-in-Some-clause-authority c homes covers home same may lost table valid = moves_soundly c.args.self.now.roots _ homes covers c.args.dir.0 home (returns-in-Some-clause-roots c homes covers home same may lost) table valid may

pub returns-in_default-clause-roots : goal.returns-in_default-clause-roots
returns-in_default-clause-roots c homes covers home same may lost =
    settled_none c.args.self.now.roots homes covers c.args.dir.0 home _ refl (subst (IsLostRank c.args.self.now.roots homes covers c.args.dir.0 home) c.in_default.is lost)

pub returns-in_default-clause-authority : goal.returns-in_default-clause-authority
returns-in_default-clause-authority c homes covers home same may lost table valid = moves_soundly c.args.self.now.roots _ homes covers c.args.dir.0 home (returns-in_default-clause-roots c homes covers home same may lost) table valid may
