use Rattle.mdcache.proofs.Common.{sym, ◌∙◌}
use Rattle.mdcache.proofs.JoinLaws.{inside_none, inside_one}
use Rattle.mdcache.proofs.merge_plan.push_inside.Goals as goal

pub returns-then-not-is_inside : goal.returns-then-not-is_inside
returns-then-not-is_inside c = inside_none c.args.frag c.args.leaf c.args.leaves.now.items (sym c.is_inside.ensures ∙ c.if-not-is_inside.true)

pub returns : goal.returns
returns c = inside_one c.args.frag c.args.leaf c.args.leaves.now.items c.push.new.self.items (sym c.is_inside.ensures ∙ c.if-not-is_inside.false) c.in_ok-push.ensures.items
