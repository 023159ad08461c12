-- What a change that may be made tells of its leaves and inodes.
use Rattle.mdcache.proofs.Common.{At, CacheMap, Core, Dentry, Fragment, HasTarget, IfSome, Ino, Inode, IsDentryLeaf, IsLive, IsRankNumber, IsRecordable, IsSoundCore, IsThat, LacksPlacesAt, Leaf, MayAdd, MaySet, None, Option, Rank, Some, Tree, ap, arith, false, first_leaf, hash_of, inl, inr, is_directory, is_known, names_of, no_pin, shown_in, state_of, subst, sym, true, unclean, ℕ, ◌∙◌, ◌≡◌, ◌≤◌, ◌⊎◌}
use Rattle.std.specs.FinMap as map
use Rattle.mdcache.proofs.CoreLaws.{pick_live}
use Rattle.mdcache.proofs.NamedLaws.{sound_leaves, stands_at}
use Rattle.mdcache.proofs.NoNames.{none_unless}

-- ---- inodes that a record allows

-- a new inode has a size and a pin of its kind
pub new_recordable : (tree : Tree) (dentry : Dentry) (inode : Inode) → MayAdd tree dentry inode → IsRankNumber inode.ino.0 → inode.mode ≤ 4095 → HasTarget inode.kind → IsRecordable inode
new_recordable tree dentry inode may number mode target = record { number = number; mode = mode; size = may.sized; target = target; pin = no_pin tree dentry inode may }

-- an altered inode is allowed where it was before
pub set_recordable : (tree : Tree) (dentry : Dentry) (inode : Inode) → MaySet tree dentry inode → IfSome (map.get tree dentry) IsRecordable → inode.mode ≤ 4095 → HasTarget inode.kind → IsRecordable inode
set_recordable tree dentry inode may recorded mode target =
    let before : IsRecordable may.before = subst (λ (o : Option Inode). IfSome o IsRecordable) may.stands recorded in
    record { number = subst (λ (n : _). IsRankNumber n.0) (sym may.number) before.number; mode = mode; size = may.sized before.size; target = target; pin = may.pinned before.pin }

-- ---- leaves

module _ (c : Core) (sound : IsSoundCore c) (dentry : Dentry) (leaf : Fragment) where
  -- the leaf of a directory that is there
  pub dir_live : is_directory (shown_in c) dentry.dir.0 ≡ true → IsDentryLeaf c.covers dentry leaf → IsLive c.homes c.covers (dentry.dir, leaf)
  dir_live is pick = pick_live c sound dentry.dir (hash_of dentry.name) leaf is pick

  module _ (inode : Inode) (stands : map.get (shown_in c) dentry ≡ Some inode) (pick : IsDentryLeaf c.covers dentry leaf) where
    -- that of an entry
    pub entry_live : IsLive c.homes c.covers (dentry.dir, leaf)
    entry_live = dir_live (sound.sound.tabled.whole.parents dentry.dir.0 dentry.name inode stands) pick

    -- which shows it
    pub shows_entry : map.get (shown_in c) dentry ≡ map.get (names_of (unclean c.caches) c.objects (dentry.dir, leaf)) dentry.name
    shows_entry = stands_at (state_of c) (sound_leaves (state_of c) sound.sound) dentry leaf entry_live.known pick

-- ---- what lacks

-- where one place lacks two do
pub one_or_two : (c : Core) (rank : Rank) → LacksPlacesAt 1 c rank → LacksPlacesAt 2 c rank
one_or_two c rank lacks = omega (arith, lacks)

-- ---- the first leaf of a directory that comes

-- a cached fragment is live, so none is of a directory that isn't there
pub first_nowhere : (c : Core) → IsSoundCore c → (dir : Ino) → is_known c.homes dir.0 ≡ false → map.get c.caches.held (first_leaf dir) ≡ None
first_nowhere c sound dir unknown = none_unless (map.get c.caches.held (first_leaf dir)) (λ a is. let clash : true ≡ false = sym (sound.cached (first_leaf dir) a is).live.known ∙ unknown in cc)

-- what is used for it is live where it is cached: the leaf of the dentry
pub first_live_so : (c : Core) (r : ℕ) (leaf first : Leaf) (caches : CacheMap) → IsLive c.homes c.covers leaf → map.get caches.held first ≡ None
    → (s : ℕ) (q : Leaf) → IsThat r leaf s q ⊎ IsThat r first s q → (a : At) → map.get caches.held q ≡ Some a → IsLive c.homes c.covers q
first_live_so c r leaf first caches live absent s q (inl is) a at = subst (IsLive c.homes c.covers) (sym is.1) live
first_live_so c r leaf first caches live absent s q (inr is) a at = let clash : None ≡ Some a = sym absent ∙ ap (map.get caches.held) (sym is.1) ∙ at in absurd cc
