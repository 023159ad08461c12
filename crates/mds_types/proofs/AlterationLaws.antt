-- What an alteration leaves of an inode, and what its kind prescribes then.
use Rattle.std.specs.Prelude.{◌≡◌, ℕ, Option, Some, None, unwrap_or, refl}
use Rattle.std.proofs.Common.{arith}
use Rattle.std.proofs.lemmas.Bool.Decides.{nat_tests}
use Rattle.mds_types.specs.declared.ids.Rank.{Rank}
use Rattle.mds_types.specs.declared.inodes.Alteration.{Alteration}
use Rattle.mds_types.specs.declared.inodes.Alteration.TheVariants.{Attributed, Pinned}
use Rattle.mds_types.specs.declared.inodes.Inode.{Inode}
use Rattle.mds_types.specs.declared.inodes.Kind.{Kind}
use Rattle.mds_types.specs.declared.inodes.Kind.TheVariants.{File, Dir, Symlink}
use Rattle.mds_types.specs.Step.{altered, alteration_errno, pin_errno, size_errno}
use Rattle.mds_types.specs.Tree.{HasPinOf, HasSize}

pub altered_number : (alteration : Alteration) (inode : Inode) → (altered alteration inode).ino ≡ inode.ino
altered_number (Attributed given) inode = refl
altered_number (Pinned pin) inode = refl

pub altered_kind : (alteration : Alteration) (inode : Inode) → (altered alteration inode).kind ≡ inode.kind
altered_kind (Attributed given) inode = refl
altered_kind (Pinned pin) inode = refl

-- a size that may be given keeps what the kind prescribes
sized_still : (kind : Kind) (size : Option ℕ) (before : ℕ) → size_errno kind size ≡ None → HasSize kind before → HasSize kind (unwrap_or size before)
sized_still kind None before may sized = sized
sized_still File (Some size) before may sized = tt
sized_still Dir (Some size) before may sized = cc
sized_still (Symlink target) (Some size) before may sized = cc

-- a pin that may be set is one that the kind allows
pinned : (kind : Kind) (pin : Option Rank) → pin_errno kind pin ≡ None → HasPinOf kind pin
pinned kind None may = tt
pinned File (Some rank) may = absurd cc
pinned Dir (Some rank) may = grind (arith, nat_tests)
pinned (Symlink target) (Some rank) may = absurd cc

-- an inode that is altered as it may be has the size and the pin that its kind allows
pub altered_size : (alteration : Alteration) (inode : Inode) → alteration_errno inode.kind alteration ≡ None → HasSize inode.kind inode.size → HasSize inode.kind (altered alteration inode).size
altered_size (Attributed given) inode may sized = sized_still inode.kind given.size inode.size may sized
altered_size (Pinned pin) inode may sized = sized

pub altered_pin : (alteration : Alteration) (inode : Inode) → alteration_errno inode.kind alteration ≡ None → HasPinOf inode.kind inode.pin → HasPinOf inode.kind (altered alteration inode).pin
altered_pin (Attributed given) inode may pinned_before = pinned_before
altered_pin (Pinned pin) inode may pinned_before = pinned inode.kind pin may
