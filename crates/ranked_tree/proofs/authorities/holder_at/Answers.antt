use Rattle.ranked_tree.proofs.Common.{HoldsAt, IsAt, held_in, rules, shown_tree, state_of, subst, ℕ, ◌≡◌}
use Rattle.ranked_tree.proofs.AuthorityLaws.{found_held, none_held}
use Rattle.ranked_tree.proofs.authorities.holder_at.Goals as goal

pub returns-in_default : goal.returns-in_default
returns-in_default g c = none_held c.args.tree.now (held_in c.args.regions.now) c.requires c.args.dir c.args.frag c.in_default.ensures

pub returns : goal.returns
returns g c =
    let same : c.in-Some.located.at.frag ≡ c.args.frag = search rules in
    found_held c.args.tree.now (held_in c.args.regions.now) c.requires c.args.dir c.args.frag c.in-Some.located.at (subst (λ (n : ℕ). IsAt (shown_tree (state_of c.args.tree.now)) c.args.tree.now.covers (HoldsAt (state_of c.args.tree.now) (held_in c.args.regions.now)) c.args.dir.0 n c.in-Some.located.at) c.value.ensures.value c.in-Some.ensures.at) same
