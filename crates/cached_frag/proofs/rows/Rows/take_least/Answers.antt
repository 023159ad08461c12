use Rattle.cached_frag.proofs.Common.{ap, option_copied, sym, ◌∙◌}
use Rattle.cached_frag.proofs.RowLaws.{first_is}
use Rattle.cached_frag.proofs.rows.Rows.take_least.Goals as goal

pub take_from-requires-clause-clean : goal.take_from-requires-clause-clean
take_from-requires-clause-clean c = rw (← c.self.view_is) (first_is _ _ (sym c.peek.ensures ∙ ap option_copied c.in-Some-Some.is-0))

pub take_from-requires-clause-dirty : goal.take_from-requires-clause-dirty
take_from-requires-clause-dirty c = rw (← c.self.view_is) (first_is _ _ (sym c.peek-2.ensures ∙ ap option_copied c.in-Some-Some.is-1))
