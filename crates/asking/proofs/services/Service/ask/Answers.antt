-- What was asked, and what was forgotten behind it.
use Rattle.asking.proofs.Common.{Core, ap, ◌∙◌}
use Rattle.asking.proofs.AmongLaws.{none_from_all, none_in_all}
use Rattle.asking.proofs.ServiceLaws.{goes_on_as_one, ordered_still}
use Rattle.asking.specs.Drain.{waiting_in_all}
use Rattle.cluster_core.specs.Forgetting.{Forgets}
use Rattle.asking.proofs.services.Service.ask.Goals as goal

pub ask_once-answer-requires : goal.ask_once-answer-requires
ask_once-answer-requires g c = none_from_all c.args.self.now.book.core.state.inboxes c.args.self.now.idle

forgot : (g : _) → (c : goal.After-self-1 g) → Forgets c.args.self.now.history c.ask_once-answer.new.book c.forget.new.self
forgot g c = record {
  count = c.forget.result;
  few = c.forget.ensures.few;
  waits = c.forget.ensures.waits;
  stops = c.forget.ensures.stops;
  left = c.forget.ensures.left;
  core = c.forget.ensures.core;
  nothing = c.forget.ensures.nothing;
  opening = c.forget.ensures.opening;
  goes_on = c.forget.ensures.goes_on;
}

pub returns-clause-one_thread : goal.returns-clause-one_thread
returns-clause-one_thread g c = λ opening past goes.
    let asked = c.ask_once-answer.ensures in
    goes_on_as_one _ _ _ (forgot g c) opening past c.args.self.now.book _ c.ask_once-answer.result (asked.goes_on opening past goes) (asked.one_thread opening past goes) (asked.stands opening past goes)

pub returns-clause-in_order : goal.returns-clause-in_order
returns-clause-in_order g c = ordered_still _ _ _ (forgot g c) c.ask_once-answer.ensures.sound _ _ c.ask_once-answer.ensures.in_order

pub returns-clause-asked : goal.returns-clause-asked
returns-clause-asked g c = record { middle = c.ask_once-answer.new.book; asked = c.ask_once-answer.ensures.asked; goes_on = c.ask_once-answer.ensures.goes_on; forgets = forgot g c }

pub returns-clause-limit : goal.returns-clause-limit
returns-clause-limit g c = ap (λ (k : Core). k.state.tree.limit) c.forget.ensures.core ∙ c.ask_once-answer.ensures.limit

pub invariant_of-self : goal.invariant_of-self
invariant_of-self g c = record { idle = ap (λ (k : Core). waiting_in_all k.state.inboxes) c.forget.ensures.core ∙ none_in_all c.ask_once-answer.new.book.core.state.inboxes c.ask_once-answer.ensures.none }
