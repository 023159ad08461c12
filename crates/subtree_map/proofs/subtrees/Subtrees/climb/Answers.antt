-- Each step goes to the leaf that holds the dentry, whose directory is the parent.
use Rattle.subtree_map.proofs.Common.{ap, hash_of, inherited, itself, nearer, option_copied, sym, ◌∙◌}
use Rattle.subtree_map.proofs.Climbs.{holds_at, no_stranger}
use Rattle.subtree_map.proofs.Nearest.{followed, none_from_top}
use Rattle.subtree_map.proofs.subtrees.Subtrees.climb.Goals as goal

pub loop-rank-init : goal.loop-rank-init
loop-rank-init c = record { table = c.is_table.ensures; stands = c.requires.home; way = λ root. (λ near. near, λ near. near) }

pub returns-in-Some : goal.returns-in-Some
returns-in-Some c = record {
  nearest = (c.loop-rank.invariant.way c.loop-rank.leaf).0 (itself c.loop-rank.leaf c.in-Some.rank (sym c.in-Some.ensures));
  ranked = sym c.in-Some.ensures;
}

pub returns-in_err-above : goal.returns-in_err-above
returns-in_err-above c =
    rw c.from_residual.ensures (λ root near.
    none_from_top c.args.self.now.roots c.args.dirs.now.homes c.args.dirs.now.trees c.loop-rank.leaf root (sym c.rank_for.ensures ∙ c.in_default.is)
    (sym c.loop-rank.invariant.stands ∙ ap option_copied c.in_err-above.was) ((c.loop-rank.invariant.way root).1 near))

pub returns-in_default-leaf_at : goal.returns-in_default-leaf_at
returns-in_default-leaf_at c root near =
    no_stranger c.args.dirs.now.homes c.args.dirs.now.trees c.loop-rank.invariant.table c.loop-rank.leaf.0.0 c.in_ok-above.above.now
    (sym c.loop-rank.invariant.stands ∙ ap option_copied c.in_ok-above.was) c.in_default-leaf_at.ensures.at

pub loop-rank-smaller : goal.loop-rank-smaller
loop-rank-smaller c =
    nearer c.args.dirs.now.homes c.loop-rank.leaf.0.0 c.in_ok-above.above.now c.loop-rank.invariant.table.rooted (sym c.loop-rank.invariant.stands ∙ ap option_copied c.in_ok-above.was)

pub loop-rank-preserved : goal.loop-rank-preserved
loop-rank-preserved c =
    let none = sym c.rank_for.ensures ∙ c.in_default.is in
    let stands = sym c.loop-rank.invariant.stands ∙ ap option_copied c.in_ok-above.was in
    let at = c.in-Some-leaf_at.ensures.at in
    let holds = holds_at c.args.dirs.now.homes c.args.dirs.now.trees c.in_ok-above.above.now c.rjenkins.result c.in-Some-leaf_at.at.frag _ (c.rjenkins.ensures ∙ ap hash_of c.as_bytes.ensures.bytes) at in
    record {
      table = c.loop-rank.invariant.table;
      stands = at.home;
      way = λ root. (
        λ rest. (c.loop-rank.invariant.way root).0 (inherited c.loop-rank.leaf (c.in_ok-above.above.now.parent, c.in-Some-leaf_at.at.frag) root c.in_ok-above.above.now none stands holds rest),
        λ near. followed c.args.self.now.roots c.args.dirs.now.homes c.args.dirs.now.trees c.loop-rank.leaf (c.in_ok-above.above.now.parent, c.in-Some-leaf_at.at.frag) root c.in_ok-above.above.now none stands holds ((c.loop-rank.invariant.way root).1 near),
      );
    }
