use Rattle.plain_frags.proofs.Common.{IsUnused, Kept, ap, is_numbered, list_any, not, rules, subst, true, ◌↔◌, ◌∙◌, ◌≡◌}
use Rattle.plain_frags.proofs.Unused.{unused_told}
use Rattle.plain_frags.proofs.frags.PlainFrags.is_unused.Goals as goal

pub returns-then-ne : goal.returns-then-ne
returns-then-ne c =
    subst (λ (k : Kept). (c.none_numbered.result ≡ true) ↔ IsUnused k.tree c.args.number.0) c.self.view_is
    (unused_told _ c.args.number.0 _ (search rules) (c.none_numbered.ensures ∙ ap (λ rows. not (list_any (is_numbered c.args.number.0) rows)) c.iter.ensures))
