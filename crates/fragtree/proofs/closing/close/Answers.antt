-- A fragment that descents pass, and within which nothing is split any more, is where they end.
use Rattle.fragtree.proofs.Common.{contents, frag_cmp}
use Rattle.fragtree.proofs.Spelled.{closed, closed_after}
use Rattle.fragtree.proofs.closing.close.Goals as goal

pub returns-clause-closed : goal.returns-clause-closed
returns-clause-closed c =
    closed_after (contents frag_cmp c.args.splits.now) (contents frag_cmp c.lead_to.new.splits) (contents frag_cmp c.forget.new.splits) c.args.f c.lead_to.ensures.same
    (closed (contents frag_cmp c.lead_to.new.splits) (contents frag_cmp c.forget.new.splits) c.args.f c.lead_to.ensures.some c.lead_to.ensures.valid c.lead_to.ensures.passes c.forget.ensures)
