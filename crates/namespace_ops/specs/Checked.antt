-- What the checks of an operation find.
use Rattle.std.specs.Prelude.{◌≡◌, ℕ, true}
use Rattle.mds_types.specs.declared.dirfrags.Dirfrag.{Dirfrag}
use Rattle.mds_types.specs.declared.operations.Op.{Op}
use Rattle.mds_types.specs.Tree.{Tree, IsUnused}
use Rattle.mds_types.specs.Step.{Outcome, answers}
use Rattle.inode_table.specs.Dirs.{Covers}
use Rattle.namespace_ops.specs.declared.plans.Change.{Change}
use Rattle.namespace_ops.specs.declared.plans.Checked.{Checked}
use Rattle.namespace_ops.specs.declared.plans.Checked.TheVariants.{Answers, Changes}
use Rattle.namespace_ops.specs.Changes.{Carries, IsChangeOf, IsNumbered, LieHeld, Takes, changed, is_idle, reply_of}

-- the operation makes this change, offered the number n, which a new inode has: it is one of the operation, leads to
-- the table's outcome, lies where its ranks hold its leaves, and may be made, where the number that it takes is unused
pub record IsChecked (tree : Tree) (covers : Covers) (Holds : Dirfrag → Type 0) (op : Op) (n : ℕ) (outcome : Outcome)
    (change : Change) : Type 0 where
  pub one_of : IsChangeOf op change
  pub replied : outcome.reply ≡ reply_of change
  pub leads : outcome.tree ≡ changed tree change
  pub number : outcome.takes ≡ change.comes
  pub numbered : IsNumbered (λ m. m ≡ n) change
  pub carries : Carries tree covers change
  pub held : LieHeld Holds change
  pub takes : (outcome.takes ≡ true → IsUnused tree n) → Takes tree change

-- what was found: a reply alone, of an operation that changes nothing, or a change
abbrev pub Checks : Tree → Covers → (Dirfrag → Type 0) → Op → ℕ → Outcome → Checked → Type 0
Checks tree covers Holds op n outcome (Answers reply) = (outcome ≡ answers tree reply) × (is_idle op reply ≡ true)
Checks tree covers Holds op n outcome (Changes change) = IsChecked tree covers Holds op n outcome change
