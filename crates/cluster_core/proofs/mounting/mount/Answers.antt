-- A book over a store as it is found stands behind the tree that it shows, with no past.
use Rattle.cluster_core.proofs.Common.{AreSetAside, Some, Table, [], aside_none, ap, fresh, refl, subst, sym}
use Rattle.cluster_core.proofs.MountedBook.{mounts_none_kept}
use Rattle.cluster_core.proofs.SettledLaws.{none_known}
use Rattle.cluster_core.proofs.mounting.mount.Goals as goal

pub invariant_of-result : goal.invariant_of-result
invariant_of-result g c =
    let m = c.in-Ok in
    record {
      sound = (
        fresh m.opening,
        [],
        record {
          opened = refl;
          behind = record {
            sound = rw c.new.ensures.items m.ensures.sound;
            aside = rw c.new.ensures.items (subst (λ (t : Table). AreSetAside [] [] t) (sym (mounts_none_kept _ _ _ _ m.opening m.cluster m.ensures.mounted)) aside_none);
          };
        },
      );
      settled = none_known m.cluster.state c.new-in-Ok.result.ranks.items c.new-in-Ok.ensures;
    }

pub returns-in-Ok-clause-goes_on : goal.returns-in-Ok-clause-goes_on
unfolding invariant_of-result
returns-in-Ok-clause-goes_on g c = rw (← c.in-Ok.ensures.opening) (invariant_of-result g c).sound.2

pub returns-in-Ok-clause-sound : goal.returns-in-Ok-clause-sound
returns-in-Ok-clause-sound g c = (invariant_of-result g c).sound

pub returns-in-Ok-clause-mounted : goal.returns-in-Ok-clause-mounted
returns-in-Ok-clause-mounted g c = rw (← c.in-Ok.ensures.opening) c.in-Ok.ensures.mounted

pub returns-in-Ok-clause-opening : goal.returns-in-Ok-clause-opening
returns-in-Ok-clause-opening g c = ap Some c.in-Ok.ensures.opening
