-- Nothing is led on at first.
use Rattle.fragtree.proofs.Common.{arith, refl, there}
use Rattle.fragtree.proofs.closing.lead_to.Goals as goal

pub loop-bits-init : goal.loop-bits-init
loop-bits-init c = record { some = c.requires.some; same = λ h bits low few e. e; passes = there 0 refl; within = omega arith; room = omega (arith, c.requires.room) }
