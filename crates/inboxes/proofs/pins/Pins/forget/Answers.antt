use Rattle.inboxes.proofs.Common.{filter_same, is_on, not, rules}
use Rattle.inboxes.proofs.pins.Pins.forget.Goals as goal

pub returns : goal.returns
returns c = rw (← c.self.view_is) (filter_same _ (λ pin. not (is_on c.args.dir c.args.frag pin)) _ (λ x b f called. search rules) _ _ c.retain.ensures.filtered)
