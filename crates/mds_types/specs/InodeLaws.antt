-- When inodes are equal, as their type says of it.
use Rattle.std.specs.Prelude.{◌≡◌}
use Rattle.std.specs.Bool.{Decides}
use Rattle.std.proofs.Common.{rules}
use Rattle.std.proofs.lemmas.Bool.Decides.{Decides-and, Decides-eqb}
use Rattle.sorted_map.proofs.Decided.{option_decides}
use Rattle.mds_types.specs.declared.ids.Rank.{Rank}
use Rattle.mds_types.specs.declared.inodes.Inode.{Inode}
use Rattle.mds_types.specs.contracts.ids.RankPartialEq.TheImpl as rank
use Rattle.mds_types.specs.contracts.inodes.KindPartialEq.TheImpl as kind
use Rattle.mds_types.specs.contracts.inodes.InodePartialEq.TheImpl as inode

pub inode_decides : (a b : Inode) → Decides (inode.ghosts.eq a b) (a ≡ b)
inode_decides a b =
    let kinds : Decides (kind.ghosts.eq a.kind b.kind) (a.kind ≡ b.kind) = Prim.search rules in
    let ranks : (x y : Rank) → Decides (rank.ghosts.eq x y) (x ≡ y) = λ x y. Prim.search rules in
    let pins = option_decides rank.ghosts.eq ranks a.pin b.pin in
    let all =
    Decides-and _ _ (Decides-eqb a.ino.0 b.ino.0)
    (Decides-and _ _ kinds (Decides-and _ _ (Decides-eqb a.size b.size) (Decides-and _ _ (Decides-eqb a.mtime b.mtime)
    (Decides-and _ _ (Decides-eqb a.uid b.uid)
    (Decides-and _ _ (Decides-eqb a.gid b.gid) (Decides-and _ _ (Decides-eqb a.mode b.mode) pins)))))) in (
      λ t. let w = all.0 t in λ i. record {
        ino = record { 0 = w.0 i };
        kind = w.1.0 i;
        size = w.1.1.0 i;
        mtime = w.1.1.1.0 i;
        uid = w.1.1.1.1.0 i;
        gid = w.1.1.1.1.1.0 i;
        mode = w.1.1.1.1.1.1.0 i;
        pin = w.1.1.1.1.1.1.1 i;
      },
      λ (s : a ≡ b). all.1 (Prim.search rules),
    )
