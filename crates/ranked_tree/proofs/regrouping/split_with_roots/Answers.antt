use Rattle.ranked_tree.proofs.Common.{CameAt, CanSplit, Err, IsFamilyOf, IsRootSplit, LacksPlacesFor, RefusesSplit, Roots, Rules, SplitsFrag, faults_in, held_in, leaf_of, leaves_of, refl, regroup_free, rules, state_of, stays, subst, ◌+◌, ◌^◌, ◌∙◌, ◌≡◌}
use Rattle.ranked_tree.proofs.DividedLaws.{split_divided}
use Rattle.ranked_tree.proofs.HeldRegroups.{regroup_on, unsplit_owned}
use Rattle.ranked_tree.proofs.Kept.{keeps_same}
use Rattle.ranked_tree.proofs.StandLaws.{came_by, thawed_held, undone}
use Rattle.ranked_tree.proofs.SubtreeLaws.{children_have}
use Rattle.ranked_tree.proofs.regrouping.split_with_roots.Goals as goal

pub returns-in-Err : goal.returns-in-Err
returns-in-Err g c =
    let same = c.reserve_split.ensures.same in
    let leaves = leaves_of c.args.tree.now.covers c.args.at.now.dir.0 in
    let refused = regroup_on (CanSplit leaves c.args.at.now.frag c.args.bits) (RefusesSplit leaves c.args.at.now.frag c.args.bits) (state_of c.args.tree.now) c.args.at.now.dir (2 ^ c.args.bits) ⊥ (LacksPlacesFor (2 ^ c.args.bits + 1) c.args.tree.now c.args.regions.now.roots.roots (leaf_of c.args.at.now)) c.args.tree.now.faults c.args.tree.now.faults c.in-Err.refusal (λ never. absurd never) c.in-Err.ensures.refused in
    let free : faults_in c.in-Err.refusal ≡ 0 = regroup_free (CanSplit leaves c.args.at.now.frag c.args.bits) (RefusesSplit leaves c.args.at.now.frag c.args.bits) (λ never. never) (state_of c.args.tree.now) c.args.at.now.dir (2 ^ c.args.bits) ⊥ c.args.tree.now.faults c.in-Err.refusal c.in-Err.ensures.refused in
    let kept = keeps_same (state_of c.args.tree.now) (state_of c.args.tree.now) c.args.regions.now.roots.roots c.reserve_split.new.roots.roots c.args.regions.now.exports c.args.regions.now.exports refl same refl c.requires.divided.stand.valid in
    let divided = undone c.args.tree.now c.args.tree.now c.args.regions.now c.reserve_split.new.roots c.requires.divided c.requires.divided.owned refl refl same c.reserve_split.ensures.promises in
    search (rules, refused, stays, same, kept, divided)

pub returns-in-Err-split_held : goal.returns-in-Err-split_held
returns-in-Err-split_held g c =
    let same = c.reserve_split.ensures.same in
    let its = c.in-Err-split_held.ensures in
    let came = subst (λ (r : Roots). CameAt (Rules (state_of c.args.tree.now) r (leaf_of c.args.at.now)) (IsFamilyOf c.args.at.now.dir c.args.at.now.frag c.args.bits) c.args.tree.now.caches c.split_held.new.tree.caches) same its.came in
    let owned = unsplit_owned c.args.tree.now c.split_held.new.tree (held_in c.args.regions.now) (held_in c.args.regions.now) c.requires.divided.owned its.count its.sound c.args.at.now.dir c.args.at.now.frag c.args.bits (record { known = c.requires.known; stands = c.requires.can.stands })
    (came_by (Rules (state_of c.args.tree.now) c.args.regions.now.roots.roots (leaf_of c.args.at.now)) _ (IsFamilyOf c.args.at.now.dir c.args.at.now.frag c.args.bits) _ _ (λ rank. thawed_held c.args.regions.now.exports c.args.regions.now.roots.roots c.args.tree.now.homes c.args.tree.now.covers (leaf_of c.args.at.now) rank c.requires.thawed) came) its.split.1 c.requires.can.fits in
    let refused = subst (λ (r : Roots). SplitsFrag (LacksPlacesFor (2 ^ c.args.bits + 1) c.args.tree.now r (leaf_of c.args.at.now)) c.args.tree.now c.split_held.new.tree c.args.at.now.dir c.args.at.now.frag c.args.bits (Err c.in-Err-split_held.refusal)) same its.split in
    let kept = keeps_same (state_of c.args.tree.now) (state_of c.split_held.new.tree) c.args.regions.now.roots.roots c.reserve_split.new.roots.roots c.args.regions.now.exports c.args.regions.now.exports its.split.1 same refl c.requires.divided.stand.valid in
    let divided = undone c.args.tree.now c.split_held.new.tree c.args.regions.now c.reserve_split.new.roots c.requires.divided owned its.split.1 its.count same c.reserve_split.ensures.promises in
    search (rules, its, refused, came, same, kept, divided)

pub returns : goal.returns
returns g c =
    let same = c.reserve_split.ensures.same in
    let its = c.in_default-split_held.ensures in
    let came = subst (λ (r : Roots). CameAt (Rules (state_of c.args.tree.now) r (leaf_of c.args.at.now)) (IsFamilyOf c.args.at.now.dir c.args.at.now.frag c.args.bits) c.args.tree.now.caches c.split_held.new.tree.caches) same its.came in
    let roots = subst (λ (r : Roots). IsRootSplit r c.split_root.new.self.roots c.args.at.now.dir.0 c.args.at.now.frag c.args.bits) same c.split_root.ensures.roots in
    let promises = c.split_root.ensures.promises ∙ c.reserve_split.ensures.promises in
    let kept = split_divided c.args.tree.now c.split_held.new.tree c.args.regions.now c.split_root.new.self c.requires.divided its.sound its.count c.args.at.now.dir c.args.at.now.frag promises c.args.bits its.split.0 roots c.requires.thawed came in
    let children = children_have (state_of c.args.tree.now) (state_of c.split_held.new.tree) c.args.regions.now.roots.roots c.split_root.new.self.roots c.requires.divided.owned.sound.sound c.requires.divided.stand.valid c.args.at.now.dir c.args.at.now.frag c.args.bits its.split.0 roots in
    search (rules, its, came, roots, promises, children, kept)
