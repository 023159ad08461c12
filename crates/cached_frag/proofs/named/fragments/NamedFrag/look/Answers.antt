use Rattle.cached_frag.proofs.Common.{sym, ◌∙◌}
use Rattle.cached_frag.proofs.ShownLaws.{get-shown, recorded_shown, shown_entries}
use Rattle.cached_frag.proofs.named.fragments.NamedFrag.look.Goals as goal

pub returns-clause-found : goal.returns-clause-found
returns-clause-found c = rw (← c.self.view_is) (c.shown_in.ensures ∙ sym (get-shown _ _ _ _ c.self.invariant.based))

pub returns-clause-recorded : goal.returns-clause-recorded
returns-clause-recorded c =
    recorded_shown _ _ _ (shown_entries _ _ _ c.self.invariant.based c.self.invariant.entries c.self.invariant.dirty) (c.shown_in.ensures ∙ sym (get-shown _ _ _ _ c.self.invariant.based))
