use Rattle.ranked_tree.proofs.Common.{Counts, ap, count_of, held_in, ◌∙◌}
use Rattle.ranked_tree.proofs.AuthorityLaws.{located, nowhere}
use Rattle.ranked_tree.proofs.authorities.locate.Goals as goal

pub returns-in_default : goal.returns-in_default
returns-in_default g c = nowhere c.args.tree.now (held_in c.args.regions.now) c.requires c.args.dir c.args.hash c.dirs-dirs.result.now.homes c.dirs-dirs.result.now.trees c.dirs-dirs.ensures.homes c.dirs-dirs.ensures.trees c.in_default.ensures.at

pub returns : goal.returns
returns g c = record {
  at = located c.args.tree.now (held_in c.args.regions.now) c.requires c.args.dir c.args.hash c.dirs-dirs.result.now.homes c.dirs-dirs.result.now.trees c.dirs-dirs.ensures.homes c.dirs-dirs.ensures.trees c.in-Some.leaf.frag _ c.in-Some.ensures.at
      c.held_leaf-at.result c.held_leaf-at.ensures.dir c.held_leaf-at.ensures.frag c.held_leaf-at.ensures.held;
  entries = c.in-Some.ensures.entries ∙ ap (λ (n : Counts). count_of n c.args.dir.0) c.dirs-dirs.ensures.counts ∙ c.requires.sound.sound.counted.each c.args.dir.0;
}
