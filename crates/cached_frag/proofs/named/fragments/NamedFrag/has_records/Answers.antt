use Rattle.cached_frag.proofs.Common.{refl}
use Rattle.cached_frag.proofs.ShownLaws.{recorded_shown, shown_entries}
use Rattle.cached_frag.proofs.named.fragments.NamedFrag.has_records.Goals as goal

pub returns : goal.returns
returns c = λ name. rw (← c.self.view_is) (recorded_shown _ name _ (shown_entries _ _ _ c.self.invariant.based c.self.invariant.entries c.self.invariant.dirty) refl)
