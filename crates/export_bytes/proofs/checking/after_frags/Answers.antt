-- One fragment more rises.
use Rattle.export_bytes.proofs.Common.{arith, sym, ◌∙◌}
use Rattle.export_bytes.proofs.RisenItems.{frag_rises}
use Rattle.export_bytes.proofs.checking.after_frags.Goals as goal

pub frags-preserved : goal.frags-preserved
frags-preserved c =
    frag_rises c.frags.last c.frags.left c.frags.rest.now c.in-Some.after.now _ _ (omega (arith, c.frags-test.true)) c.in-Some.ensures
    (sym c.follows_place.ensures ∙ c.if-not-follows_place.false) c.frags.invariant
