use Rattle.std.specs.Prelude.{is_some}
use Rattle.cached_frag.proofs.Common.{ap, sym, ◌∙◌}
use Rattle.cached_frag.proofs.ShownLaws.{get-shown}
use Rattle.cached_frag.proofs.named.fragments.NamedFrag.shows.Goals as goal

pub returns : goal.returns
returns c =
    rw (← c.self.view_is) (c.shows_in.ensures ∙ sym (ap is_some (get-shown _ _ _ _ c.self.invariant.based)))
