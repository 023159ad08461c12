use Rattle.ranked_tree.proofs.Common.{None, Some, refl, rules, state_of, ◌≡◌, ◌≢◌, shape_of, shown_tree}
use Rattle.ranked_tree.proofs.HolderLaws.{put_live, taken_live}
use Rattle.ranked_tree.proofs.RenameLaws.{lost_at}
use Rattle.ranked_tree.proofs.changing.lost_rank.Goals as goal

pub authority_at-was-requires-clause-live : goal.authority_at-was-requires-clause-live
authority_at-was-requires-clause-live g c = taken_live (state_of c.args.tree.now) c.requires.divided.owned.sound.sound c.args.change.now c.requires.may c.in-Some.from c.in-Some.is

pub authority_at-other-requires-clause-live : goal.authority_at-other-requires-clause-live
authority_at-other-requires-clause-live g c = put_live (state_of c.args.tree.now) c.requires.divided.owned.sound.sound c.args.change.now c.requires.may c.in-Some-puts.put c.in-Some-puts.is

pub returns-then-eq : goal.returns-then-eq
returns-then-eq g c =
    let same : c.authority_at-was.result ≡ c.authority_at-other.result = search rules in
    lost_at (state_of c.args.tree.now) c.requires.divided.owned.sound.sound c.args.regions.now.roots.roots c.args.change.now (shape_of (shown_tree (state_of c.args.tree.now)) c.args.tree.now.covers c.args.change.now c.requires.may) c.requires.may c.in-Some.from c.in-Some-puts.put c.in-Some.is c.in-Some-puts.is c.authority_at-was.result c.authority_at-other.result c.authority_at-was.ensures c.authority_at-other.ensures None same

pub returns : goal.returns
returns g c =
    let apart : c.authority_at-was.result ≢ c.authority_at-other.result = search rules in
    lost_at (state_of c.args.tree.now) c.requires.divided.owned.sound.sound c.args.regions.now.roots.roots c.args.change.now (shape_of (shown_tree (state_of c.args.tree.now)) c.args.tree.now.covers c.args.change.now c.requires.may) c.requires.may c.in-Some.from c.in-Some-puts.put c.in-Some.is c.in-Some-puts.is c.authority_at-was.result c.authority_at-other.result c.authority_at-was.ensures c.authority_at-other.ensures (Some c.authority_at-was.result) (refl, apart)
