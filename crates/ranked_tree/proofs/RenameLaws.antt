-- What a directory's move needs of the roots: it keeps its leaves, and the rank that they inherit is known at both its dentries.
use Rattle.ranked_tree.proofs.Common.{Bool, Change, Covers, Home, Homes, IfSome, Ino, Inode, IsInheritedAt, IsLostRank, IsRightChange, KeepsRanksOf, IsSound, IsSpot, MatchBool, MatchOption, MayChange, MayMove, None, Option, Rank, Roots, Rules, SettleMoving, Shape, Some, Spot, State, Tree, add, changed, cond, cond_both, dentry_at, dir_moving, directory_at, entry_stands, false, home_at, is_dir_kind, is_directory, leaf_of, leaves_of, move, moves, refl, relocates, remove, rules, same_Some, set, shown_tree, subst, sym, taken, true, ◌≡◌, ◌≢◌}
use Rattle.std.specs.FinMap as map
use Rattle.mds_types.proofs.EntryLaws.{get_put}

-- the rank that is lost, where the directory's dentry is at a leaf of one rank and the new one at a leaf of another
abbrev pub IsLost : (was other : Rank) → Option Rank → Type 0
IsLost was other None = was ≡ other
IsLost was other (Some rank) = (rank ≡ was) × (was ≢ other)

module _ (s : State) (sound : IsSound s) (roots : Roots) where
  inherited : (spot : Spot) → IsSpot s.covers spot → (rank : Rank) → Rules s roots (leaf_of spot.at) rank → IsInheritedAt roots s.homes s.covers (home_at (dentry_at spot)) rank
  inherited spot pick rank rules = record { holder = leaf_of spot.at; holds = record { parent = refl; pick = pick }; has = rules }

  pub lost_at : (change : Change) → Shape change → MayChange (shown_tree s) s.covers change → (from : Spot) (to : Spot × Inode) → change.takes ≡ Some from → change.puts ≡ Some to → (was other : Rank) → Rules s roots (leaf_of from.at) was → Rules s roots (leaf_of to.0.at) other
      → (lost : Option Rank) → IsLost was other lost → (put : Spot × Inode) → change.puts ≡ Some put → IfSome (dir_moving change) (λ (dir : Ino). IsLostRank roots s.homes s.covers dir.0 (home_at (dentry_at put.0)) lost)
  lost_at _ (add spot inode) able from to t p was other here there lost is put n = tt
  lost_at _ (set spot inode) able from to t p was other here there lost is put n = tt
  lost_at _ (remove spot went) able from to t p was other here there lost is put n = tt
  lost_at _ (move source target inode went) able from to t p was other here there lost is put n =
      subst (λ (q : Spot × Inode). IfSome (directory_at (Some inode)) (λ (dir : Ino). IsLostRank roots s.homes s.covers dir.0 (home_at (dentry_at q.0)) lost)) (same_Some (target, inode) put n)
      (cond_both (is_dir_kind inode.kind) (Some inode.ino) None (λ o. IfSome o (λ (dir : Ino). IsLostRank roots s.homes s.covers dir.0 (home_at (dentry_at target)) lost)) (at lost is) (λ file. tt))
    where
      stood : is_dir_kind inode.kind ≡ true → map.get s.homes inode.ino.0 ≡ Some (home_at (dentry_at source))
      stood kinded = sound.tabled.holds.listed (dentry_at source) inode able.takes.stands kinded

      before : IsInheritedAt roots s.homes s.covers (home_at (dentry_at source)) was
      before = inherited source able.carries.taken was (subst (λ (q : Spot). Rules s roots (leaf_of q.at) was) (sym (same_Some source from t)) here)

      after : IsInheritedAt roots s.homes s.covers (home_at (dentry_at target)) other
      after = inherited target able.carries.put other (subst (λ (q : Spot × Inode). Rules s roots (leaf_of q.0.at) other) (sym (same_Some (target, inode) to p)) there)

      at : (o : Option Rank) → IsLost was other o → is_dir_kind inode.kind ≡ true → IsLostRank roots s.homes s.covers inode.ino.0 (home_at (dentry_at target)) o
      at None same kinded = (home_at (dentry_at source), was, stood kinded, before, subst (IsInheritedAt roots s.homes s.covers (home_at (dentry_at target))) (sym same) after)
      at (Some rank) (that, apart) kinded = subst (λ (r : Rank). IsLostRank roots s.homes s.covers inode.ino.0 (home_at (dentry_at target)) (Some r)) (sym that) (home_at (dentry_at source), other, stood kinded, before, after, apart)

-- a directory that moved has the leaves that it had
pub leaves_stay : (old new : State) (change : Change) → Shape change → IsRightChange change old new → IfSome (dir_moving change) (λ (dir : Ino). leaves_of old.covers dir.0 ≡ leaves_of new.covers dir.0)
leaves_stay old new _ (move source target inode went) is =
    cond_both (is_dir_kind inode.kind) (Some inode.ino) None (λ o. IfSome o (λ (dir : Ino). leaves_of old.covers dir.0 ≡ leaves_of new.covers dir.0))
    (λ kinded.
    sym (is.leaves inode.ino.0 (subst (λ (t : Tree). is_directory t inode.ino.0 ≡ true) (sym is.tree)
    (entry_stands (changed (shown_tree old) (moves source target inode went)) (dentry_at target) inode (get_put (taken (shown_tree old) (Some source)) (dentry_at target) inode) kinded))))
    (λ file. tt)
leaves_stay old new _ _ is = tt

-- so there is room for as many as before
pub room_still : (d : Option Ino) (covers now : Covers) (P : Ino → Covers → Type 0) → ((dir : Ino) → leaves_of covers dir.0 ≡ leaves_of now dir.0 → P dir covers → P dir now)
    → IfSome d (λ (dir : Ino). leaves_of covers dir.0 ≡ leaves_of now dir.0) → IfSome d (λ (dir : Ino). P dir covers) → IfSome d (λ (dir : Ino). P dir now)
room_still d covers now P keeps same has = search rules

-- what is known of the roots of a directory, if one moved, that has the leaves of this table
abbrev pub Settles : Option Ino → Covers → (before after : Roots) → Option Rank → Type 0
Settles d now before after lost = (homes : Homes) (covers : Covers) (home : Home) → MatchOption d (after ≡ before) (λ (dir : Ino). leaves_of covers dir.0 ≡ leaves_of now dir.0 → MayMove homes dir.0 home → IsLostRank before homes covers dir.0 home lost → KeepsRanksOf before after homes covers dir.0 home)

-- and its roots are settled
module _ (old new : State) (sound : IsSound old) (before after : Roots) (lost : Option Rank) where
  pub settles : (change : Change) → Shape change → MayChange (shown_tree old) old.covers change → IsRightChange change old new
      → ((put : Spot × Inode) → change.puts ≡ Some put → IfSome (dir_moving change) (λ (dir : Ino). IsLostRank before old.homes old.covers dir.0 (home_at (dentry_at put.0)) lost))
      → Settles (dir_moving change) new.covers before after lost → SettleMoving change old before after
  settles _ (add spot inode) able done is its = its old.homes old.covers (home_at (dentry_at spot))
  settles _ (set spot inode) able done is its = its old.homes old.covers (home_at (dentry_at spot))
  settles _ (remove spot went) able done is its = its old.homes old.covers (home_at (dentry_at spot))
  settles _ (move source target inode went) able done is its = by (is_dir_kind inode.kind) refl (leaves_stay old new _ (move source target inode went) done) (is (target, inode) refl) its
    where
      by : (b : Bool) → is_dir_kind inode.kind ≡ b → IfSome (cond b (Some inode.ino) None) (λ (dir : Ino). leaves_of old.covers dir.0 ≡ leaves_of new.covers dir.0)
          → IfSome (cond b (Some inode.ino) None) (λ (dir : Ino). IsLostRank before old.homes old.covers dir.0 (home_at (dentry_at target)) lost)
          → Settles (cond b (Some inode.ino) None) new.covers before after lost → MatchBool b (KeepsRanksOf before after old.homes old.covers inode.ino.0 (home_at (dentry_at target))) (after ≡ before)
      by true kinded same is its = its old.homes old.covers (home_at (dentry_at target)) same (relocates old sound source target inode went able kinded) is
      by false kinded same is its = its old.homes old.covers (home_at (dentry_at target))
