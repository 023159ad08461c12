use Rattle.cluster_core.proofs.Common.{AreCached, AreExported, Core, IsSoundWith, refl, subst}
use Rattle.cluster_core.proofs.Forgotten.{aside_step}
use Rattle.cluster_core.proofs.LimitStays.{limit_stays}
use Rattle.cluster_core.proofs.Stepped.{sound-step}
use Rattle.cluster_core.proofs.clusters.Cluster.step.Goals as goal

pub returns-clause-sound : goal.returns-clause-sound
returns-clause-sound g c opening past behind =
    let s = c.is_sound.ensures.owned in
    let kept = subst (λ (core : Core). IsSoundWith core.state.tree core.caches) c.self.view_is (record { sound = s.sound.sound; begun = s.sound.begun; cached = s.sound.cached }) in
    let cached = subst AreCached c.self.view_is (record { unsaved = refl; places = s.sound.none; held = s.held; orders = c.is_sound.ensures.caches }) in
    let stand = c.is_sound.ensures.stand in
    let exported = subst AreExported c.self.view_is (record { placed = stand.placed.ranked; ranked = stand.ranked; there = stand.there; unbegun = stand.unbegun }) in
    let stepped = c.choose-answer.ensures.stepped opening past behind in
    record {
      sound = sound-step opening _ _ _ _ behind.sound kept cached exported stepped.ranks c.choose-answer.ensures.valid
          (limit_stays _ _ _ _ c.choose-answer.result c.args.event stepped.does) c.choose-answer.result c.args.event stepped.does;
      aside = aside_step past _ _ _ _ c.choose-answer.result c.args.event stepped.does behind.sound.kept behind.aside;
    }
