-- Why a cluster isn't opened over a store.
use Rattle.std.specs.Prelude.{◌≡◌}
use Rattle.mdcache.specs.Mounted.{MayNotMount}
use Rattle.keeping.specs.Rows.{SessionRows}
use Rattle.kept_store.specs.Kept.{KeptObjects, StoresRows}
use Rattle.session_rows.specs.Restoring.{RefusesRows}
use Rattle.sqlite_trees.specs.Tree.{Trees}
use Rattle.sqlite_trees.specs.View.{IsClean, View}
use Rattle.kept_book.specs.declared.opening.Unopened.{Unopened}
use Rattle.kept_book.specs.declared.opening.Unopened.TheVariants.{Damaged, Refused, Unread}

-- the objects have no tree that can be mounted; or the rows can't be read; or, if the disk is honest, one of the rows
-- that it has is damaged
abbrev pub MayNotOpen : {T : Type 0} → (T → View) → (T → Trees → Type 0) → KeptObjects T → Unopened → Type 0
MayNotOpen view recovers kept (Refused reason) = MayNotMount kept.objects 0 0 reason
MayNotOpen view recovers kept (Unread fault) = Unit {0}
MayNotOpen {T} view recovers kept (Damaged fault) = ((t : T) → IsClean (view t)) → (rows : SessionRows)
    → StoresRows (recovers kept.tables) rows → RefusesRows rows fault
