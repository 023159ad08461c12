-- What an operation on an object does, as the operations of RADOS that are put into one atomic write.
use Rattle.std.specs.Prelude.{ℕ, List, Option, Some, None, Bool, true, false, []}
use Rattle.std.specs.FinMap as map
use Rattle.sorted_map.specs.Overlay.{overlaid, without_keys}
use Rattle.objstore.specs.declared.write_ops.WriteOp.{WriteOp}
use Rattle.objstore.specs.Omap.{Omap, PairMap, Keys, empty_omap}

-- clear: header and pairs go
abbrev pub cleared : Bool → Omap → Omap
cleared true old = empty_omap
cleared false old = old

-- a header is written, if one is given
abbrev pub with_header : Option (List ℕ) → Omap → Omap
with_header None old = old
with_header (Some header) old = record { header = header; pairs = old.pairs }

-- each key of these gets its value
abbrev pub with_set : PairMap → Omap → Omap
with_set set old = record { header = old.header; pairs = overlaid old.pairs set }

-- these keys go
abbrev pub with_removed : Keys → Omap → Omap
with_removed keys old = record { header = old.header; pairs = without_keys old.pairs keys }

-- the whole operation, in the order clear, header, set, remove
unfoldable pub applied : WriteOp → Omap → Omap
applied op old = with_removed op.remove (with_set op.set (with_header op.header (cleared op.clear old)))

-- the operation that changes nothing
abbrev pub nothing : WriteOp
nothing = record { clear = false; header = None; set = map.empty; remove = map.empty }

-- the header after an operation that clears or not, and writes a header or not
abbrev pub header_after : Bool → Option (List ℕ) → List ℕ → List ℕ
header_after clear (Some header) old = header
header_after true None old = []
header_after false None old = old

-- the pairs into which an operation sets its own
abbrev pub pairs_before : Bool → PairMap → PairMap
pairs_before true old = map.empty
pairs_before false old = old
