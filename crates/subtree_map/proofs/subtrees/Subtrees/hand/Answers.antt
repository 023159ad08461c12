use Rattle.subtree_map.proofs.Common.{Rank, Subtrees, ap, sym, ◌∙◌, ◌≡◌}
use Rattle.std.specs.FinMap as map
use Rattle.subtree_map.proofs.CutOff.{handed}
use Rattle.subtree_map.proofs.Options.{not_none, one_value}
use Rattle.subtree_map.proofs.subtrees.Subtrees.hand.Goals as goal

pub returns-in-Some-clause-roots : goal.returns-in-Some-clause-roots
returns-in-Some-clause-roots c rank is =
    let own : c.in-Some.rank ≡ rank = one_value _ c.in-Some.rank rank (sym (c.in-Some.ensures ∙ ap (λ (s : Subtrees). map.get s.promises (c.args.dir, c.args.frag)) c.self.view_is)) is in
    c.keep_promise.ensures.roots ∙ ap (λ (s : Subtrees). map.insert s.roots (c.args.dir, c.args.frag) c.in-Some.rank) c.self.view_is ∙ ap (λ (r : Rank). map.insert c.args.self.now.roots (c.args.dir, c.args.frag) r) own

pub returns-in-Some-clause-authority : goal.returns-in-Some-clause-authority
returns-in-Some-clause-authority c rank is = handed c.args.self.now.roots _ (c.args.dir, c.args.frag) rank c.requires.is_root (returns-in-Some-clause-roots c rank is)

pub returns-in_default-clause-roots : goal.returns-in_default-clause-roots
returns-in_default-clause-roots c rank is =
    absurd (not_none _ rank (sym (ap (λ (s : Subtrees). map.get s.promises (c.args.dir, c.args.frag)) c.self.view_is) ∙ sym c.promised.ensures ∙ c.in_default.is) is)
