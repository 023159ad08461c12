use Rattle.subtree_map.proofs.Common.{ap, hash_of, ◌∙◌}
use Rattle.subtree_map.proofs.Climbs.{holds_at}
use Rattle.subtree_map.proofs.subtrees.Subtrees.root_above.Goals as goal

pub returns : goal.returns
returns c = (
  (c.args.parent, c.in-Some.at.frag),
  holds_at c.args.dirs.now.homes c.args.dirs.now.trees (record { parent = c.args.parent; name = c.args.name.now }) c.rjenkins.result c.in-Some.at.frag _ (c.rjenkins.ensures ∙ ap hash_of c.as_bytes.ensures.bytes) c.in-Some.ensures.at,
  c.climb.ensures,
)
