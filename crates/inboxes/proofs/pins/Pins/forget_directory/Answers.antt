use Rattle.inboxes.proofs.Common.{filter_same, is_grant_in, not, rules}
use Rattle.inboxes.proofs.pins.Pins.forget_directory.Goals as goal

pub returns : goal.returns
returns c = rw (← c.self.view_is) (filter_same _ (λ pin. not (is_grant_in c.args.dir pin)) _ (λ x b f called. search rules) _ _ c.retain.ensures.filtered)
