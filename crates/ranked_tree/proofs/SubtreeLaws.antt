-- What a change of the tree makes of the roots, and of every leaf's authority.
use Rattle.ranked_tree.proofs.Common.{AreRoots, Bool, Change, Covers, Dentry, FollowChange, Fragment, GivesToChildren, HasAuthority, HaveOneAuthority, Homes, IfSome, Ino, Inode, IsMergedInto, IsRootMerge, IsRootSplit, KeepsRanksOf, IsSound, IsSplitInto, IsSubtrees, IsTable, LoseDirectory, Makes, MatchBool, MayChange, MayGo, MayMove, None, Option, Roots, SettleMove, Shape, Some, State, TakesOver, add, ap, dentry_at, dir_or_not, false, home_at, inr, is_dir_kind, may_come, may_go, move, moved_home, moved_known, refl, relocates, remove, replaces, rows_but, set, shown_tree, subst, sym, true, with_dir, with_file, with_home, ℕ, ⊎_elim, ◌∙◌, ◌≡◌}
use Rattle.ranked_tree.proofs.ChangedTables.{added_tables, grown_tables, moved_tables, removed_tables, set_tables}
use Rattle.ranked_tree.proofs.RootLaws.{IsSoundChange, split_keeps, divided_soundly, grown, lost, merge_keeps, merged_soundly, rehomed, sound_on, unchanged}

-- a directory went, or none did
lose : (before after : Roots) (homes : Homes) (covers : Covers) (went : Option Ino) → IsTable homes covers → IsSubtrees before homes covers → LoseDirectory before after went → IfSome went (λ (dir : Ino). MayGo homes dir.0)
    → IsSoundChange before after homes (rows_but homes went) covers (rows_but covers went)
lose before after homes covers None table valid same may = unchanged before after homes covers table valid same
lose before after homes covers (Some dir) table valid gone may = lost before after homes covers table valid dir.0 gone may

-- what moves has its home there
module _ (old : State) (before settled : Roots) (to : Dentry) (inode : Inode) (sound : IsSound old) (valid : AreRoots old before) (may : is_dir_kind inode.kind ≡ true → MayMove old.homes inode.ino.0 (home_at to)) where
  pub moves : SettleMove old before settled to inode → IsSoundChange before settled old.homes (with_home old.homes to inode) old.covers old.covers
  moves settles = go (is_dir_kind inode.kind) refl settles
    where
      go : (b : Bool) → is_dir_kind inode.kind ≡ b → MatchBool b (KeepsRanksOf before settled old.homes old.covers inode.ino.0 (home_at to)) (settled ≡ before) → IsSoundChange before settled old.homes (with_home old.homes to inode) old.covers old.covers
      go true kinded its = rw (with_dir old.homes to inode kinded) (rehomed before settled old.homes old.covers sound.table valid inode.ino.0 (home_at to) its (may kinded))
      go false kinded same = rw (with_file old.homes to inode kinded) (unchanged before settled old.homes old.covers sound.table valid same)

-- every change keeps the authority of every leaf that stays
pub changes_soundly : (change : Change) → Shape change → (old new : State) (before after : Roots) → IsSound old → MayChange (shown_tree old) old.covers change → Makes change old new → FollowChange change old before after → AreRoots old before
    → IsSoundChange before after old.homes new.homes old.covers new.covers
changes_soundly _ (set spot inode) old new before after sound may makes follow valid = let tables = set_tables old new spot inode makes in rw (tables.0, tables.1) (unchanged before after old.homes old.covers sound.table valid (follow.2 ∙ follow.1))
changes_soundly _ (add spot inode) old new before after sound may makes follow valid =
    ⊎_elim (λ kinded.
    let tables = grown_tables old new spot inode kinded makes in
    rw (tables.0, tables.1) (grown before after old.homes old.covers sound.table valid inode.ino.0 (home_at (dentry_at spot)) (may_come (shown_tree old) old.homes (dentry_at spot) inode sound.tabled may.takes) (follow.2 ∙ follow.1)))
    (λ kinded. let tables = added_tables old new spot inode kinded makes in rw (tables.0, tables.1) (unchanged before after old.homes old.covers sound.table valid (follow.2 ∙ follow.1))) (dir_or_not inode)
changes_soundly _ (remove spot went) old new before after sound may makes follow valid =
    let tables = removed_tables old new spot went makes in
    rw (tables.0, tables.1) (lose before after old.homes old.covers went sound.table valid (subst (λ (r : Roots). LoseDirectory r after went) follow.1 follow.2) (may_go old spot went sound may))
changes_soundly _ (move source target inode went) old new before after sound may makes follow valid =
    let settled = follow.0 in
    let moved_homes = with_home old.homes (dentry_at target) inode in
    let able = relocates old sound source target inode went may in
    let first = moves old before settled (dentry_at target) inode sound valid able follow.1 in
    let tables = moved_tables old new source target inode went makes in
    rw (tables.0, tables.1) (sound_on before settled after old.homes moved_homes (rows_but moved_homes went) old.covers old.covers (rows_but old.covers went) first
    (lose settled after moved_homes old.covers went (moved_home old.homes old.covers sound.table (dentry_at target) inode able) first.valid follow.2 (replaces old sound source target inode went may))
    (λ leaf was is. record { known = moved_known old.homes old.covers sound.table (dentry_at target) inode able leaf.0.0 ∙ was.known; stands = was.stands }))

-- ---- splits and merges

module _ (old new : State) (before after : Roots) (sound : IsSound old) (valid : AreRoots old before) (dir : Ino) (frag : Fragment) where
  -- a leaf was split, with its root, if it is one
  module _ (nb : ℕ) (split : IsSplitInto old new dir frag nb) (roots : IsRootSplit before after dir.0 frag nb) where
    pub split_soundly : IsSoundChange before after old.homes new.homes old.covers new.covers
    split_soundly = rw (ap (λ (s : State). s.homes) split.regrouped.left)
        (divided_soundly before after old.homes old.covers sound.table valid dir.0 frag nb split.cover new.covers roots split.divided split.can.stands split.can.fits split.regrouped.whole (ap (λ (s : State). s.covers) split.regrouped.left))

    pub children_have : GivesToChildren old new before after dir frag nb
    children_have child rank is has =
        subst (λ (h : Homes). HasAuthority after h new.covers (dir, child) rank) (sym (ap (λ (s : State). s.homes) split.regrouped.left))
        ((split_keeps before after old.homes old.covers sound.table valid dir.0 frag nb split.cover new.covers roots split.divided split.can.stands split.can.fits split.regrouped.whole (ap (λ (s : State). s.covers) split.regrouped.left)).0
        (dir, frag) (dir, child) rank (record { known = split.regrouped.known; stands = split.can.stands }) (inr (refl, (child, is, refl))) has)

  -- leaves were merged that had one authority
  module _ (merge : IsMergedInto old new dir frag) (roots : IsRootMerge before after dir.0 frag) (one : HaveOneAuthority before old.homes old.covers dir.0 frag) where
    pub merge_soundly : IsSoundChange before after old.homes new.homes old.covers new.covers
    merge_soundly = rw (ap (λ (s : State). s.homes) merge.regrouped.left)
        (merged_soundly before after old.homes old.covers sound.table valid dir.0 frag merge.cover new.covers roots one merge.can merge.merged merge.regrouped.whole (ap (λ (s : State). s.covers) merge.regrouped.left))

    pub takes_over : TakesOver old new before after dir frag
    takes_over leaf rank inside live has =
        subst (λ (h : Homes). HasAuthority after h new.covers (dir, frag) rank) (sym (ap (λ (s : State). s.homes) merge.regrouped.left))
        ((merge_keeps before after old.homes old.covers sound.table valid dir.0 frag merge.cover new.covers roots one merge.can merge.merged merge.regrouped.whole (ap (λ (s : State). s.covers) merge.regrouped.left)).0 leaf (dir, frag) rank live (inr (inside, refl)) has)

-- ---- a table that is lent

-- what holds of the tables of a state holds of equal ones
pub over : (P : Homes → Covers → Type 0) (homes there : Homes) (covers under : Covers) → homes ≡ there → covers ≡ under → P there under → P homes covers
over P homes there covers under same alike holds = subst (λ (h : Homes). P h covers) (sym same) (subst (λ (c : Covers). P there c) (sym alike) holds)
