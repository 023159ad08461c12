use Rattle.cached_frag.proofs.Common.{contents, key_cmp, shown_names}
use Rattle.cached_frag.proofs.CopiedLaws.{taken_in}
use Rattle.cached_frag.proofs.fragments.CachedFrag.join_copy.Goals as goal

pub returns-clause-taken : goal.returns-clause-taken
returns-clause-taken c =
    taken_in c.args.self.now c.reserve.new.self c.join.new.self (contents key_cmp c.in_ok-names.names) (shown_names c.args.other.now) c.args.version c.in_ok-reserve.ensures.same c.in_ok-names.ensures.names c.join.ensures
