-- When marks are equal, as their type says of it.
use Rattle.std.specs.Prelude.{◌≡◌}
use Rattle.std.specs.Bool.{Decides}
use Rattle.std.proofs.Common.{ap}
use Rattle.std.proofs.lemmas.Bool.Decides.{Decides-and, Decides-eqb}
use Rattle.sorted_map.proofs.Decided.{option_decides}
use Rattle.mds_types.specs.InodeLaws.{inode_decides}
use Rattle.mds_types.specs.contracts.inodes.InodePartialEq.TheImpl as inode
use Rattle.cached_frag.specs.declared.marks.Mark.{Mark}
use Rattle.cached_frag.specs.contracts.marks.MarkPartialEq.TheImpl as mark

pub mark_decides : (a b : Mark) → Decides (mark.ghosts.eq a b) (a ≡ b)
mark_decides a b =
    let both =
    Decides-and _ _ (Decides-eqb a.version b.version)
    (option_decides inode.ghosts.eq inode_decides a.inode b.inode) in (
      λ t. let w = both.0 t in λ i. record {
        version = w.0 i;
        inode =
            w.1 i;
      },
      λ (s : a ≡ b). both.1 (ap (λ (m : Mark). m.version) s, ap (λ (m : Mark). m.inode) s),
    )
