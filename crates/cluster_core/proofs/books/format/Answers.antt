-- An empty book is sound.
use Rattle.cluster_core.proofs.Common.{AreSetAside, CacheMap, State, Table, [], ap, fresh, refl, length, subst, sym, ◌∙◌}
use Rattle.std.specs.FinMap as map
use Rattle.sessions.proofs.AsideLaws.{aside_none}
use Rattle.cluster_core.proofs.NewBook.{new_count, sound-empty}
use Rattle.cluster_core.proofs.SettledLaws.{none_known}
use Rattle.cluster_core.proofs.books.format.Goals as goal

pub invariant_of-result : goal.invariant_of-result
invariant_of-result g c =
    let e = c.in-Ok.ensures in
    record {
      sound = (
        fresh map.empty,
        [],
        record {
          opened = c.new-in-Ok.ensures;
          behind = record {
            sound = rw c.new.ensures.items (sound-empty c.in-Ok.cluster c.args.ranks c.args.limit c.requires.some c.requires.ranked e.state e.kept e.cached (ap (λ (cs : CacheMap). length cs.used) e.caches ∙ new_count c.args.ranks c.args.cache));
            aside = rw c.new.ensures.items (subst (λ (t : Table). AreSetAside [] [] t) (sym (ap (λ (s : State). s.sessions) e.state)) aside_none);
          };
        },
      );
      settled = none_known c.in-Ok.cluster.state c.new-in-Ok-2.result.ranks.items c.new-in-Ok-2.ensures;
    }

pub returns-in-Ok-clause-goes_on : goal.returns-in-Ok-clause-goes_on
unfolding invariant_of-result
returns-in-Ok-clause-goes_on g c = (invariant_of-result g c).sound.2

pub returns-in-Ok-clause-sound : goal.returns-in-Ok-clause-sound
returns-in-Ok-clause-sound g c = (invariant_of-result g c).sound

pub returns-in-Ok-clause-opening : goal.returns-in-Ok-clause-opening
returns-in-Ok-clause-opening g c = rw c.new-in-Ok.ensures refl
