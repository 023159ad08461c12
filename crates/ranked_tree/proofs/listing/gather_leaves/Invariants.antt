-- The names of the leaves so far are in the page, and reads keep the state and whose the places are.
use Rattle.ranked_tree.proofs.Common.{Fragment, IsOwned, IsPageOf, KeepsState, List, None, ReadsDir, NamedInode, rows_gathered, held_in, leaves_of, names_of, option_copied, unclean, ◌≡◌}
use Rattle.ranked_tree.proofs.WalkLaws.{AreWithin}
use Rattle.ranked_tree.proofs.listing.gather_leaves.Given as goal

abbrev pub invariant-loop-frag : goal.invariant-loop-frag
invariant-loop-frag g l = record {
  kept : KeepsState l.fn.tree l.tree None;
  reads : ReadsDir (held_in l.regions) l.dir l.fn.tree l.tree;
  owned : IsOwned l.tree (held_in l.regions);
  within : AreWithin l.frag-iterator (leaves_of l.fn.tree.covers l.dir.0);
  most : l.page.most ≡ l.fn.page.most;
  page : (whole : List NamedInode) → IsPageOf whole l.fn.page
      → (now : List NamedInode) × IsPageOf now l.page
      × (rows_gathered (λ (f : Fragment). names_of (unclean l.fn.tree.caches) l.fn.tree.objects (l.dir, f)) (option_copied l.after) now l.frag-iterator
      ≡ rows_gathered (λ (f : Fragment). names_of (unclean l.fn.tree.caches) l.fn.tree.objects (l.dir, f)) (option_copied l.after) whole (leaves_of l.fn.tree.covers l.dir.0));
}
