-- Where a map keeps its pairs. Only this crate's own contracts use these words.
use Rattle.sorted_map.specs.SortedMap.{Shown}
use Rattle.sorted_map.specs.declared.map.Store.{Store}
use Rattle.sorted_map.specs.declared.map.Store.TheVariants.{Flat, Chunked}

module _ {K V : Type 0} where
  abbrev pub shown_by : Store K V → Shown K V
  shown_by (Flat m) = m
  shown_by (Chunked m) = m.value
