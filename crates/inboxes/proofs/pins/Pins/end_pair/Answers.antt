use Rattle.inboxes.proofs.Common.{filter_same, is_for, not, rules}
use Rattle.inboxes.proofs.pins.Pins.end_pair.Goals as goal

pub returns : goal.returns
returns c = rw (← c.self.view_is) (filter_same _ (λ pin. not (is_for c.args.client c.args.tid pin)) _ (λ x b f called. search rules) _ _ c.retain.ensures.filtered)
