use Rattle.std.proofs.Common.{◌^◌, arith, ap, subst}
use Rattle.sqlite_trees.specs.View.{IsClean}
use Rattle.kept_store.proofs.KeptLaws.{back_again, fresh_again}
use Rattle.kept_store.proofs.kept.Kept.revive.Goals as goal

pub open-requires : goal.open-requires
open-requires g c clean =
    let tables = c.into_tables-tables.result in
    let new = c.crash_and_reopen.new.self in
    fresh_again (g.T.Store.view tables) (g.T.Store.view new) clean c.in_ok-crash_and_reopen.ensures.fresh (c.has_tables.ensures c.if-not-has_tables.false) (g.met.T.Store.broken_if_shut new)
    (λ sound same. (g.met.T.Store.unaltered new sound (ap (λ t. t (2 ^ 32)) same)).0)

pub returns-in-Ok-clause-found : goal.returns-in-Ok-clause-found
returns-in-Ok-clause-found g c clean =
    let new = c.crash_and_reopen.new.self in
    let late : IsClean (g.T.Store.view new) = omega (arith, c.in-Ok.ensures.clean) in (
      (g.T.Store.view new).committed,
      subst (λ t. g.T.Store.recovers t (g.T.Store.view new).committed) c.into_tables-tables.ensures (c.in_ok-crash_and_reopen.ensures.found late),
      c.in-Ok.ensures.objects clean,
    )

pub returns-in-Ok-clause-back : goal.returns-in-Ok-clause-back
returns-in-Ok-clause-back g c clean all =
    let tables = c.args.self.tables in
    let new = c.crash_and_reopen.new.self in
    let late : IsClean (g.T.Store.view new) = omega (arith, c.in-Ok.ensures.clean) in
    let older : IsClean (g.T.Store.view c.into_tables-tables.result) = omega (arith, c.crash_and_reopen.ensures.clean) in
    let early : IsClean (g.T.Store.view tables) = subst (λ t. IsClean (g.T.Store.view t)) c.into_tables-tables.ensures older in
    back_again (g.T.Store.view tables) (g.T.Store.view new) (g.T.Store.recovers tables) c.args.self.objects c.in-Ok.kept.objects c.args.self.noted
    (c.is_mirrored.ensures early)
    (subst (λ t. g.T.Store.recovers t (g.T.Store.view new).committed) c.into_tables-tables.ensures (c.in_ok-crash_and_reopen.ensures.found late))
    (c.in-Ok.ensures.objects clean) all

pub returns-in-Ok-clause-outcome : goal.returns-in-Ok-clause-outcome
returns-in-Ok-clause-outcome g c clean =
    let tables = c.into_tables-tables.result in
    let new = c.crash_and_reopen.new.self in
    let late : IsClean (g.T.Store.view new) = omega (arith, c.in-Ok.ensures.clean) in
    let fresh = fresh_again (g.T.Store.view tables) (g.T.Store.view new) late c.in_ok-crash_and_reopen.ensures.fresh (c.has_tables.ensures c.if-not-has_tables.false) (g.met.T.Store.broken_if_shut new)
    (λ sound same. (g.met.T.Store.unaltered new sound (ap (λ t. t (2 ^ 32)) same)).0) in
    record {
      db = (g.T.Store.view new).committed;
      was = subst (λ t. g.T.Store.recovers t (g.T.Store.view new).committed) c.into_tables-tables.ensures (c.in_ok-crash_and_reopen.ensures.found late);
      spelled = c.in-Ok.ensures.objects clean;
      now = λ d may. g.met.T.Store.settled new d fresh.is_open (c.in-Ok.ensures.outcomes d may);
    }
