-- What a change of the tree makes of the directory table.
use Rattle.ranked_tree.proofs.Common.{Bool, Covers, Homes, Ino, Inode, Makes, Option, Spot, State, adds, ap, cond, dentry_at, false, home_at, is_dir_kind, moves, removes, rows_but, rules, sets, true, with_directory, with_home, with_home_at, without_gone_dir, ◌∙◌, ◌≡◌}
use Rattle.std.specs.FinMap as map

-- the tables of a state are these
abbrev pub TablesAre : State → Homes → Covers → Type 0
TablesAre s homes covers = (s.homes ≡ homes) × (s.covers ≡ covers)

tables_without : (s : State) (went : Option Ino) → TablesAre (without_gone_dir s went) (rows_but s.homes went) (rows_but s.covers went)
tables_without s went = search rules

tables_of : (a b : State) → a ≡ b → TablesAre a b.homes b.covers
tables_of a b same = (ap (λ (s : State). s.homes) same, ap (λ (s : State). s.covers) same)

on : (a b : State) (homes : Homes) (covers : Covers) → a ≡ b → TablesAre b homes covers → TablesAre a homes covers
on a b homes covers same tables = (ap (λ (s : State). s.homes) same ∙ tables.0, ap (λ (s : State). s.covers) same ∙ tables.1)

-- ---- a change; the counts and the pins are none of these

module _ (old new : State) where
  pub set_tables : (spot : Spot) (inode : Inode) → Makes (sets spot inode) old new → TablesAre new old.homes old.covers
  set_tables spot inode makes = on new _ _ _ makes.2 (on makes.0 _ _ _ makes.1.2 (tables_of makes.1.0 _ makes.1.1.left))

  -- a directory comes, or another inode
  housed : (spot : Spot) (inode : Inode) (b : Bool) → is_dir_kind inode.kind ≡ b → (makes : Makes (adds spot inode) old new) → TablesAre new (cond b (with_directory makes.1.0 (dentry_at spot) inode.ino) makes.1.0).homes (cond b (with_directory makes.1.0 (dentry_at spot) inode.ino) makes.1.0).covers
  housed spot inode b kinded makes = on new _ _ _ makes.2 (tables_of makes.0 _ (makes.1.2 ∙ ap (λ (k : Bool). cond k (with_directory makes.1.0 (dentry_at spot) inode.ino) makes.1.0) kinded))

  pub grown_tables : (spot : Spot) (inode : Inode) → is_dir_kind inode.kind ≡ true → Makes (adds spot inode) old new → TablesAre new (map.insert old.homes inode.ino.0 (home_at (dentry_at spot))) old.covers
  grown_tables spot inode kinded makes =
      let its = housed spot inode true kinded makes in (its.0 ∙ ap (λ (s : State). map.insert s.homes inode.ino.0 (home_at (dentry_at spot))) makes.1.1.left, its.1 ∙ ap (λ (s : State). s.covers) makes.1.1.left)

  pub added_tables : (spot : Spot) (inode : Inode) → is_dir_kind inode.kind ≡ false → Makes (adds spot inode) old new → TablesAre new old.homes old.covers
  added_tables spot inode kinded makes = let its = housed spot inode false kinded makes in (its.0 ∙ ap (λ (s : State). s.homes) makes.1.1.left, its.1 ∙ ap (λ (s : State). s.covers) makes.1.1.left)

  pub removed_tables : (spot : Spot) (went : Option Ino) → Makes (removes spot went) old new → TablesAre new (rows_but old.homes went) (rows_but old.covers went)
  removed_tables spot went makes = on new _ _ _ makes.2 (on makes.0 (without_gone_dir makes.1.0 went) _ _ makes.1.2 (
    (tables_without makes.1.0 went).0 ∙ ap (λ (s : State). rows_but s.homes went) makes.1.1.left,
    (tables_without makes.1.0 went).1 ∙ ap (λ (s : State). rows_but s.covers went) makes.1.1.left,
  ))

  pub moved_tables : (source target : Spot) (inode : Inode) (went : Option Ino) → Makes (moves source target inode went) old new → TablesAre new (rows_but (with_home old.homes (dentry_at target) inode) went) (rows_but old.covers went)
  moved_tables source target inode went (altered, (left, is_left, (named, is_named, is)), noted_is) =
      let before = on named _ _ _ is_named.left (tables_of left _ is_left.left) in
      on new _ _ _ noted_is (on altered (without_gone_dir (with_home_at named (dentry_at target) inode) went) _ _ is (
        (tables_without (with_home_at named (dentry_at target) inode) went).0 ∙ ap (λ (h : Homes). rows_but (with_home h (dentry_at target) inode) went) before.0,
        (tables_without (with_home_at named (dentry_at target) inode) went).1 ∙ ap (λ (c : Covers). rows_but c went) before.1,
      ))
