use Rattle.sorted_map.proofs.Common.{contents, ◌≡◌}
use Rattle.std.specs.FinMap as map
use Rattle.sorted_map.proofs.OverlayLaws.{removals}
use Rattle.sorted_map.proofs.chunked.map.ChunkMap.remove_all.Given as goal

-- with the keys that are left taken out it is as with all
abbrev pub invariant-loop-pair : goal.invariant-loop-pair
invariant-loop-pair g l = record { whole : removals (contents g.K.Ord.cmp l.self) l.pair-iterator ≡ removals (contents g.K.Ord.cmp l.fn.self) (map.entries (contents g.K.Ord.cmp l.keys)) }
