use Rattle.ranked_tree.proofs.Common.{Covers, Fragment, HasLeaf, List, None, ap, rows_gathered, held_in, keeps_itself, keeps_on, leaf_more, leaves_of, names_of, option_copied, refl, subst, unclean, ℕ, ◌∙◌, ◌≡◌, State, reads_none}
use Rattle.ranked_tree.proofs.WalkLaws.{first_within, rest_within}
use Rattle.ranked_tree.proofs.AskLaws.{live_still, refused_before}
use Rattle.ranked_tree.proofs.ReadsForLaws.{reads_on}
use Rattle.ranked_tree.proofs.listing.gather_leaves.Goals as goal

pub gather_leaf-requires-clause-live : goal.gather_leaf-requires-clause-live
gather_leaf-requires-clause-live g c =
    live_still c.args.tree.now c.loop-frag.tree (c.args.dir, c.in-Some.frag) c.loop-frag.invariant.kept (record { known = c.requires.known; stands = first_within c.in-Some.frag c.next.new.self c.loop-frag.frag-iterator (leaves_of c.args.tree.now.covers c.args.dir.0) c.in-Some.ensures.steps c.loop-frag.invariant.within })

pub loop-frag-preserved : goal.loop-frag-preserved
loop-frag-preserved g c =
    let inv = c.loop-frag.invariant in
    let steps = c.in-Some.ensures.steps in
    let told : names_of (unclean c.loop-frag.tree.caches) c.loop-frag.tree.objects (c.args.dir, c.in-Some.frag) ≡ names_of (unclean c.args.tree.now.caches) c.args.tree.now.objects (c.args.dir, c.in-Some.frag) = ap (λ (s : State). names_of s.unsaved s.objects (c.args.dir, c.in-Some.frag)) inv.kept.state in
    record {
      kept = keeps_on c.args.tree.now c.loop-frag.tree c.gather_leaf.new.tree None inv.kept c.in-Ok.ensures.kept;
      reads = reads_on (held_in c.args.regions.now) c.args.dir c.args.tree.now c.loop-frag.tree c.gather_leaf.new.tree inv.kept inv.reads c.in-Ok.ensures.reads;
      owned = c.in-Ok.ensures.owned;
      within = rest_within c.in-Some.frag c.next.new.self c.loop-frag.frag-iterator (leaves_of c.args.tree.now.covers c.args.dir.0) steps inv.within;
      most = c.in-Ok.ensures.most ∙ inv.most;
      page = λ whole is.
          let w = inv.page whole is in
          leaf_more (λ (f : Fragment). names_of (unclean c.args.tree.now.caches) c.args.tree.now.objects (c.args.dir, f)) (option_copied c.args.after) c.in-Some.frag c.next.new.self c.loop-frag.frag-iterator (leaves_of c.args.tree.now.covers c.args.dir.0) w.0 whole c.loop-frag.page c.gather_leaf.new.page
          (names_of (unclean c.loop-frag.tree.caches) c.loop-frag.tree.objects (c.args.dir, c.in-Some.frag)) told steps w.1 w.2 c.in-Ok.ensures.page;
    }

pub returns-in-Err-clause-reads : goal.returns-in-Err-clause-reads
returns-in-Err-clause-reads g c = reads_on (held_in c.args.regions.now) c.args.dir c.args.tree.now c.loop-frag.tree c.gather_leaf.new.tree c.loop-frag.invariant.kept c.loop-frag.invariant.reads c.gather_leaf.ensures.reads

pub returns-in-Err-clause-refused : goal.returns-in-Err-clause-refused
returns-in-Err-clause-refused g c =
    refused_before c.args.tree.now c.loop-frag.tree (held_in c.args.regions.now) (c.args.dir, c.in-Some.frag) c.gather_leaf.new.tree.faults c.in-Err.refusal c.loop-frag.invariant.kept
    (record { known = c.requires.known; stands = first_within c.in-Some.frag c.next.new.self c.loop-frag.frag-iterator (leaves_of c.args.tree.now.covers c.args.dir.0) c.in-Some.ensures.steps c.loop-frag.invariant.within }) c.in-Err.ensures.refused

pub loop-frag-init : goal.loop-frag-init
loop-frag-init g c =
    let same : c.into_iter-frag-iterator.result ≡ leaves_of c.args.tree.now.covers c.args.dir.0 = c.into_iter-frag-iterator.ensures.into_iter_gives ∙ c.in_ok-leaves.ensures.leaves ∙ ap (λ (cs : Covers). leaves_of cs c.args.dir.0) c.dirs.ensures.trees in
    record {
      kept = keeps_itself c.args.tree.now;
      reads = reads_none;
      owned = c.requires.owned;
      within = λ f has. subst (λ (fs : List Fragment). HasLeaf fs f) same has;
      most = refl;
      page = λ whole is. (whole, is, ap (λ (fs : List Fragment). rows_gathered (λ (f : Fragment). names_of (unclean c.args.tree.now.caches) c.args.tree.now.objects (c.args.dir, f)) (option_copied c.args.after) whole fs) same);
    }

pub returns-in_err-leaves-clause-reads : goal.returns-in_err-leaves-clause-reads
returns-in_err-leaves-clause-reads g c = reads_none
