use Rattle.objstore.proofs.Common.{sym}
use Rattle.objstore.proofs.WriteLaws.{overlaid-empty}
use Rattle.objstore.proofs.objects.put_pairs.Goals as goal

pub returns-then-clear-clause-ok : goal.returns-then-clear-clause-ok
returns-then-clear-clause-ok c = rw c.if-clear.true (sym (overlaid-empty c.args.set))
