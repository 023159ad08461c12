use Rattle.ranked_tree.proofs.Common.{AllHave, CameAt, CanMerge, Err, HaveOneAuthority, IsMergedHere, IsRootMerge, LacksPlacesInside, MergesFrags, RefusesMerge, Roots, faults_in, held_in, leaves_of, refl, regroup_free, rules, state_of, stays, subst, sym, ◌∙◌, ◌≡◌}
use Rattle.ranked_tree.proofs.DividedLaws.{merge_divided}
use Rattle.ranked_tree.proofs.HeldRegroups.{regroup_on, unmerged_owned}
use Rattle.ranked_tree.proofs.Kept.{keeps_same}
use Rattle.ranked_tree.proofs.StandLaws.{all_held, came_by, undone}
use Rattle.ranked_tree.proofs.SubtreeLaws.{takes_over}
use Rattle.ranked_tree.proofs.regrouping.merge_with_roots.Goals as goal

pub returns-in-Err : goal.returns-in-Err
returns-in-Err g c =
    let same = c.reserve_merge.ensures.same in
    let leaves = leaves_of c.args.tree.now.covers c.args.dir.0 in
    let refused = regroup_on (CanMerge leaves c.args.frag) (RefusesMerge leaves c.args.frag) (state_of c.args.tree.now) c.args.dir 1 ⊥ (LacksPlacesInside 1 c.args.tree.now c.args.regions.now.roots.roots c.args.dir c.args.frag) c.args.tree.now.faults c.args.tree.now.faults c.in-Err.refusal (λ never. absurd never) c.in-Err.ensures.refused in
    let free : faults_in c.in-Err.refusal ≡ 0 = regroup_free (CanMerge leaves c.args.frag) (RefusesMerge leaves c.args.frag) (λ never. never) (state_of c.args.tree.now) c.args.dir 1 ⊥ c.args.tree.now.faults c.in-Err.refusal c.in-Err.ensures.refused in
    let kept = keeps_same (state_of c.args.tree.now) (state_of c.args.tree.now) c.args.regions.now.roots.roots c.reserve_merge.new.roots.roots c.args.regions.now.exports c.args.regions.now.exports refl same refl c.requires.divided.stand.valid in
    let divided = undone c.args.tree.now c.args.tree.now c.args.regions.now c.reserve_merge.new.roots c.requires.divided c.requires.divided.owned refl refl same c.reserve_merge.ensures.promises in
    search (rules, refused, stays, same, kept, divided)

pub merge_held-requires-clause-one : goal.merge_held-requires-clause-one
merge_held-requires-clause-one g c = subst (λ (r : Roots). HaveOneAuthority r c.args.tree.now.homes c.args.tree.now.covers c.args.dir.0 c.args.frag) (sym c.reserve_merge.ensures.same) c.requires.one

pub returns-in-Err-merge_held : goal.returns-in-Err-merge_held
returns-in-Err-merge_held g c =
    let same = c.reserve_merge.ensures.same in
    let its = c.in-Err-merge_held.ensures in
    let came = subst (λ (r : Roots). CameAt (AllHave c.args.tree.now.homes c.args.tree.now.covers r c.args.dir c.args.frag) (IsMergedHere c.args.tree.now.covers c.args.dir c.args.frag) c.args.tree.now.caches c.merge_held.new.tree.caches) same its.came in
    let owned = unmerged_owned c.args.tree.now c.merge_held.new.tree (held_in c.args.regions.now) (held_in c.args.regions.now) c.requires.divided.owned its.count its.sound c.args.dir c.args.frag c.requires.known c.requires.can
    (came_by (AllHave c.args.tree.now.homes c.args.tree.now.covers c.args.regions.now.roots.roots c.args.dir c.args.frag) _ (IsMergedHere c.args.tree.now.covers c.args.dir c.args.frag) _ _ (all_held c.args.regions.now.exports c.args.regions.now.roots.roots c.args.tree.now.homes c.args.tree.now.covers c.args.dir c.args.frag c.requires.thawed) came) its.merged.1 in
    let refused = subst (λ (r : Roots). MergesFrags (LacksPlacesInside 1 c.args.tree.now r c.args.dir c.args.frag) c.args.tree.now c.merge_held.new.tree c.args.dir c.args.frag (Err c.in-Err-merge_held.refusal)) same its.merged in
    let kept = keeps_same (state_of c.args.tree.now) (state_of c.merge_held.new.tree) c.args.regions.now.roots.roots c.reserve_merge.new.roots.roots c.args.regions.now.exports c.args.regions.now.exports its.merged.1 same refl c.requires.divided.stand.valid in
    let divided = undone c.args.tree.now c.merge_held.new.tree c.args.regions.now c.reserve_merge.new.roots c.requires.divided owned its.merged.1 its.count same c.reserve_merge.ensures.promises in
    search (rules, its, refused, came, same, kept, divided)

pub returns : goal.returns
returns g c =
    let same = c.reserve_merge.ensures.same in
    let its = c.in_default-merge_held.ensures in
    let came = subst (λ (r : Roots). CameAt (AllHave c.args.tree.now.homes c.args.tree.now.covers r c.args.dir c.args.frag) (IsMergedHere c.args.tree.now.covers c.args.dir c.args.frag) c.args.tree.now.caches c.merge_held.new.tree.caches) same its.came in
    let roots = subst (λ (r : Roots). IsRootMerge r c.merge_roots.new.self.roots c.args.dir.0 c.args.frag) same c.merge_roots.ensures.roots in
    let promises = c.merge_roots.ensures.promises ∙ c.reserve_merge.ensures.promises in
    let kept = merge_divided c.args.tree.now c.merge_held.new.tree c.args.regions.now c.merge_roots.new.self c.requires.divided its.sound its.count c.args.dir c.args.frag promises its.merged.0 roots c.requires.one c.requires.thawed came in
    let over = takes_over (state_of c.args.tree.now) (state_of c.merge_held.new.tree) c.args.regions.now.roots.roots c.merge_roots.new.self.roots c.requires.divided.owned.sound.sound c.requires.divided.stand.valid c.args.dir c.args.frag its.merged.0 roots c.requires.one in
    search (rules, its, came, roots, promises, over, kept)
