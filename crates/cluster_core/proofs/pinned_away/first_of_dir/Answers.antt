use Rattle.cluster_core.proofs.Common.{Covers, IsPick, [], arith, leaves_of, sight_of, subst, tree_of_row}
use Rattle.cluster_core.proofs.DirWalkLaws.{StaysHere, dir_found, dir_none}
use Rattle.cluster_core.proofs.GrantLaws.{goes_on, nearer}
use Rattle.cluster_core.proofs.pinned_away.first_of_dir.Goals as goal

pub loop-hash-init : goal.loop-hash-init
loop-hash-init g c = λ grants f has before to away. absurd (omega (arith, before))

pub returns-in-Some : goal.returns-in-Some
returns-in-Some g c = λ grants.
    let t = c.args.tree.now.tree in
    let cover = tree_of_row t.homes t.covers c.is_sound.ensures.owned.sound.sound.table c.args.dir.0 in
    let pick = subst (λ (x : Covers). IsPick (leaves_of x c.args.dir.0) c.loop-hash.hash c.pick-frag.result) c.dirs.ensures.trees c.pick-frag.ensures.pick in
    dir_found (sight_of c.args.tree.now grants c.args.ranks c.args.rank) c.args.dir cover c.loop-hash.hash c.pick-frag.result c.in-Some.to (omega (arith, c.loop-hash-test.true)) (c.loop-hash.invariant grants) pick (c.in-Some.ensures grants)

pub loop-hash-smaller : goal.loop-hash-smaller
loop-hash-smaller g c =
    let t = c.args.tree.now.tree in
    let cover = tree_of_row t.homes t.covers c.is_sound.ensures.owned.sound.sound.table c.args.dir.0 in
    let pick = subst (λ (x : Covers). IsPick (leaves_of x c.args.dir.0) c.loop-hash.hash c.pick-frag.result) c.dirs.ensures.trees c.pick-frag.ensures.pick in
    let on = nearer (leaves_of t.covers c.args.dir.0) cover (StaysHere (sight_of c.args.tree.now [] c.args.ranks c.args.rank) c.args.dir) c.loop-hash.hash c.pick-frag.result c.end_of-hash.result (omega (arith, c.loop-hash-test.true)) pick c.end_of-hash.ensures.end in
    omega (arith, on.0, on.1)

pub loop-hash-preserved : goal.loop-hash-preserved
loop-hash-preserved g c = λ grants.
    let t = c.args.tree.now.tree in
    let cover = tree_of_row t.homes t.covers c.is_sound.ensures.owned.sound.sound.table c.args.dir.0 in
    let pick = subst (λ (x : Covers). IsPick (leaves_of x c.args.dir.0) c.loop-hash.hash c.pick-frag.result) c.dirs.ensures.trees c.pick-frag.ensures.pick in
    goes_on (leaves_of t.covers c.args.dir.0) cover (StaysHere (sight_of c.args.tree.now grants c.args.ranks c.args.rank) c.args.dir) c.loop-hash.hash c.pick-frag.result c.end_of-hash.result (omega (arith, c.loop-hash-test.true)) (c.loop-hash.invariant grants) pick (c.in_default.ensures grants) c.end_of-hash.ensures.end

pub returns : goal.returns
returns g c = λ grants.
    let t = c.args.tree.now.tree in
    let cover = tree_of_row t.homes t.covers c.is_sound.ensures.owned.sound.sound.table c.args.dir.0 in
    dir_none (sight_of c.args.tree.now grants c.args.ranks c.args.rank) c.args.dir cover c.loop-hash.hash (omega (arith, c.loop-hash-test.false)) (c.loop-hash.invariant grants)
