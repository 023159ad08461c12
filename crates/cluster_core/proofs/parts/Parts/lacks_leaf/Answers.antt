use Rattle.cluster_core.proofs.Common.{MayTouch, arith, cluster_of, in_directory, leaf_of, leaves_of, subst, sym, tree_of_row, ◌≡◌}
use Rattle.cluster_core.proofs.GrantLaws.{denied, ends_all, goes_on, is_among, nearer, of_each}
use Rattle.cluster_core.proofs.parts.Parts.lacks_leaf.Goals as goal

pub loop-hash-init : goal.loop-hash-init
loop-hash-init g c = λ f has before. absurd (omega (arith, before))

pub returns-then-not-may_touch : goal.returns-then-not-may_touch
returns-then-not-may_touch g c =
    let s = (cluster_of c.args.self.now).state in
    let there : leaf_of c.in-Some.located.at ≡ in_directory c.args.dir.0 c.in-Some.located.at.frag = λ i. (record { 0 = c.in-Some.ensures.at.dir i }, c.in-Some.located.at.frag) in
    record {
      leaf = in_directory c.args.dir.0 c.in-Some.located.at.frag;
      changes = is_among c.args.dir.0 (leaves_of s.tree.covers c.args.dir.0) c.in-Some.located.at.frag c.in-Some.ensures.at.leaf.stands;
      barred = λ may. denied c.may_touch.result c.may_touch.ensures c.if-not-may_touch.true (subst (MayTouch s c.args.rank c.args.request.now) (sym there) may);
    }

pub loop-hash-smaller : goal.loop-hash-smaller
loop-hash-smaller g c =
    let s = (cluster_of c.args.self.now).state in
    let cover = tree_of_row s.tree.homes s.tree.covers c.is_sound.ensures.owned.sound.sound.table c.args.dir.0 in
    let on = nearer (leaves_of s.tree.covers c.args.dir.0) cover (λ f. MayTouch s c.args.rank c.args.request.now (in_directory c.args.dir.0 f)) c.loop-hash.hash c.in-Some.located.at.frag c.end_of-hash.result (omega (arith, c.loop-hash-test.true)) c.in-Some.ensures.at.leaf c.end_of-hash.ensures.end in
    omega (arith, on.0, on.1)

pub loop-hash-preserved : goal.loop-hash-preserved
loop-hash-preserved g c =
    let s = (cluster_of c.args.self.now).state in
    let cover = tree_of_row s.tree.homes s.tree.covers c.is_sound.ensures.owned.sound.sound.table c.args.dir.0 in
    let there : leaf_of c.in-Some.located.at ≡ in_directory c.args.dir.0 c.in-Some.located.at.frag = λ i. (record { 0 = c.in-Some.ensures.at.dir i }, c.in-Some.located.at.frag) in
    goes_on (leaves_of s.tree.covers c.args.dir.0) cover (λ f. MayTouch s c.args.rank c.args.request.now (in_directory c.args.dir.0 f)) c.loop-hash.hash c.in-Some.located.at.frag c.end_of-hash.result (omega (arith, c.loop-hash-test.true)) c.loop-hash.invariant c.in-Some.ensures.at.leaf
    (subst (MayTouch s c.args.rank c.args.request.now) there (c.may_touch.ensures.0 c.if-not-may_touch.false)) c.end_of-hash.ensures.end

pub returns : goal.returns
returns g c =
    let s = (cluster_of c.args.self.now).state in
    let cover = tree_of_row s.tree.homes s.tree.covers c.is_sound.ensures.owned.sound.sound.table c.args.dir.0 in
    of_each c.args.dir.0 (MayTouch s c.args.rank c.args.request.now) (leaves_of s.tree.covers c.args.dir.0) (ends_all (leaves_of s.tree.covers c.args.dir.0) cover (λ f. MayTouch s c.args.rank c.args.request.now (in_directory c.args.dir.0 f)) c.loop-hash.hash (omega (arith, c.loop-hash-test.false)) c.loop-hash.invariant)
