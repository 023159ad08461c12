-- The opening tree is there, and empty.
use Rattle.admin_cli.proofs.Common.{Some, ap, arith, sym, ◌∙◌}
use Rattle.std.specs.Option.{option_copied}
use Rattle.admin_cli.proofs.GoesOnLaws.{opens_empty_of}
use Rattle.admin_cli.proofs.workload.serving.opens_empty.Goals.{in-Some, in-None}
use Rattle.admin_cli.proofs.workload.serving.opens_empty.Goals as goal

pub returns : goal.returns
returns g c =
    elim c.match-opening.branch [
      | in-Some w ↦ rw w.is_empty-is (λ is.
          opens_empty_of c.args.book.now c.is_sound.ensures (omega (arith, c.places.ensures, c.if-places-gt0.false))
          (sym c.opening.ensures ∙ ap option_copied w.in-Some.is ∙ ap Some (w.eq-is_empty.ensures.same.0 is ∙ c.new-empty.ensures)))
      | in-None w ↦ rw w.is_empty-is (λ is. cc)
    ]
