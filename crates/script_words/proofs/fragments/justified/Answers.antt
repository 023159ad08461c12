use Rattle.script_words.proofs.Common.{arith, one_shl, ◌-◌}
use Rattle.script_words.proofs.FragLemmas.{justified-below}
use Rattle.script_words.proofs.fragments.justified.Goals as goal

pub overflow_mul-result : goal.overflow_mul-result
overflow_mul-result c =
    rw (one_shl (24 - c.args.bits) 32 (omega arith)) (omega (arith, justified-below c.args.number c.args.bits c.requires.few c.requires.fits))
