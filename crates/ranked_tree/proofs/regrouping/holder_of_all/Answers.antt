use Rattle.ranked_tree.proofs.Common.{Covers, Fragment, HasLeaf, IsInsideAt, IsLive, None, Option, held_in, leaves_of, state_of, subst, ℕ, AllHave, Rank, Rules, some_authority, sym}
use Rattle.ranked_tree.proofs.HeldLaws.{may_hold}
use Rattle.ranked_tree.proofs.HeldRegroups.{inside_live, none_before}
use Rattle.ranked_tree.proofs.InsideLaws.{is_within}
use Rattle.ranked_tree.proofs.regrouping.holder_of_all.Goals as goal

pub unreachable-requires : goal.unreachable-requires
unreachable-requires g c =
    let told = subst (λ (o : Option Fragment). IsInsideAt (leaves_of c.dirs.result.now.trees c.args.dir.0) c.args.frag c.value.result o) c.in-None.is c.leaf_inside.ensures in
    let here = subst (λ (n : ℕ). IsInsideAt (leaves_of c.dirs.result.now.trees c.args.dir.0) c.args.frag n None) c.value.ensures.value told in
    none_before (leaves_of c.args.tree.now.covers c.args.dir.0) c.args.frag c.value.ensures.valid c.requires.can
    (subst (λ (cs : Covers). IsInsideAt (leaves_of cs c.args.dir.0) c.args.frag c.args.frag.value None) c.dirs.ensures.trees here)

pub returns : goal.returns
returns g c =
    let told = subst (λ (o : Option Fragment). IsInsideAt (leaves_of c.dirs.result.now.trees c.args.dir.0) c.args.frag c.value.result o) c.in-Some.is c.leaf_inside.ensures in
    let live : IsLive c.args.tree.now.homes c.args.tree.now.covers (c.args.dir, c.in-Some.leaf) = record { known = c.requires.known; stands = subst (λ (cs : Covers). HasLeaf (leaves_of cs c.args.dir.0) c.in-Some.leaf) c.dirs.ensures.trees told.0 } in
    let inside = is_within c.args.dir c.args.frag c.in-Some.leaf told.1 in
    -- the authority of one is that of all
    let all : AllHave c.args.tree.now.homes c.args.tree.now.covers (held_in c.args.regions.now) c.args.dir c.args.frag c.holder_of.result = λ leaf lives within.
    let has = some_authority (held_in c.args.regions.now) c.args.tree.now.homes c.args.tree.now.covers c.requires.owned.sound.sound.table c.requires.owned.valid leaf lives in
    subst (λ (r : Rank). Rules (state_of c.args.tree.now) (held_in c.args.regions.now) leaf r) (sym (c.requires.one (c.args.dir, c.in-Some.leaf) leaf c.holder_of.result has.0 inside within live lives c.holder_of.ensures.rules has.1)) has.1 in
    record {
      all = all;
      inside = ((c.args.dir, c.in-Some.leaf), live, inside);
      there = c.holder_of.ensures.holds.there;
      holds = λ q contains.
          let its = inside_live (state_of c.args.tree.now) c.args.dir c.args.frag c.requires.known q contains in
          may_hold (state_of c.args.tree.now) c.args.tree.now.caches (held_in c.args.regions.now) c.requires.owned.held q c.holder_of.result (all q its.0 its.1);
    }
