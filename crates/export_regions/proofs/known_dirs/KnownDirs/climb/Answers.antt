-- Where no root is passed, a directory has the answer of its parent.
use Rattle.export_regions.proofs.Common.{All-nil, All-same, Bool, IsRightAnswer, false, leaf_of, ℕ, []}
use Rattle.export_regions.proofs.KnownLaws.{holder_nearer, nowhere, of_above, of_holder, passed_more}
use Rattle.export_regions.proofs.known_dirs.KnownDirs.climb.Goals as goal

pub loop-holder-init : goal.loop-holder-init
loop-holder-init c = record {
  table = c.is_table.ensures;
  first = λ told right. right;
  passed = λ told right. All-same (λ (d : ℕ). IsRightAnswer c.args.subtrees.now.roots c.args.dirs.now.homes c.args.dirs.now.trees (leaf_of c.args.root.now) d told) c.clear.new.self.items [] c.clear.ensures.items
      (All-nil (λ (d : ℕ). IsRightAnswer c.args.subtrees.now.roots c.args.dirs.now.homes c.args.dirs.now.trees (leaf_of c.args.root.now) d told));
}

pub returns-in_default-clause-told : goal.returns-in_default-clause-told
returns-in_default-clause-told c = c.loop-holder.invariant.first false (nowhere c.args.subtrees.now.roots c.args.dirs.now.homes c.args.dirs.now.trees (leaf_of c.args.root.now) c.loop-holder.at.0 c.in_default.ensures)

pub returns-in_default-clause-way : goal.returns-in_default-clause-way
returns-in_default-clause-way c = c.loop-holder.invariant.passed false (nowhere c.args.subtrees.now.roots c.args.dirs.now.homes c.args.dirs.now.trees (leaf_of c.args.root.now) c.loop-holder.at.0 c.in_default.ensures)

pub returns-in-Some-answer-clause-told : goal.returns-in-Some-answer-clause-told
returns-in-Some-answer-clause-told c =
    c.loop-holder.invariant.first c.in-Some-answer.told
    (of_holder c.args.subtrees.now.roots c.args.dirs.now.homes c.args.dirs.now.trees (leaf_of c.args.root.now) c.in-Some-answer.told c.loop-holder.at.0 c.in-Some.holder c.in-Some.ensures
    (c.in-Some-answer.ensures.known c.args.dirs.now.homes c.args.dirs.now.trees c.requires.right))

pub returns-in-Some-answer-clause-way : goal.returns-in-Some-answer-clause-way
returns-in-Some-answer-clause-way c =
    c.loop-holder.invariant.passed c.in-Some-answer.told
    (of_holder c.args.subtrees.now.roots c.args.dirs.now.homes c.args.dirs.now.trees (leaf_of c.args.root.now) c.in-Some-answer.told c.loop-holder.at.0 c.in-Some.holder c.in-Some.ensures
    (c.in-Some-answer.ensures.known c.args.dirs.now.homes c.args.dirs.now.trees c.requires.right))

pub loop-holder-smaller : goal.loop-holder-smaller
loop-holder-smaller c = holder_nearer c.args.dirs.now.homes c.args.dirs.now.trees c.loop-holder.invariant.table c.loop-holder.at.0 c.in-Some.holder c.in-Some.ensures

pub loop-holder-preserved : goal.loop-holder-preserved
loop-holder-preserved c = record {
  table = c.loop-holder.invariant.table;
  first = λ told right. c.loop-holder.invariant.first told (up told right);
  passed = λ told right. passed_more c.args.subtrees.now.roots c.args.dirs.now.homes c.args.dirs.now.trees (leaf_of c.args.root.now) told c.loop-holder.way.items c.push.new.self.items c.in-Some.holder.0.0 c.in_ok-push.ensures.items
      (c.loop-holder.invariant.passed told (up told right)) right;
}
  where
    up : (told : Bool) → IsRightAnswer c.args.subtrees.now.roots c.args.dirs.now.homes c.args.dirs.now.trees (leaf_of c.args.root.now) c.in-Some.holder.0.0 told
        → IsRightAnswer c.args.subtrees.now.roots c.args.dirs.now.homes c.args.dirs.now.trees (leaf_of c.args.root.now) c.loop-holder.at.0 told
    up told right = of_above c.args.subtrees.now.roots c.args.dirs.now.homes c.args.dirs.now.trees (leaf_of c.args.root.now) told c.loop-holder.at.0 c.in-Some.holder c.in-Some.ensures c.in_default-answer.ensures.unknown right
