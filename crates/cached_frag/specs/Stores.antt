-- Where a cached fragment is kept. Only this crate's own contracts use these words.
use Rattle.std.specs.Prelude.{ℕ}
use Rattle.std.specs.FinMap as map
use Rattle.cached_frag.specs.declared.bases.Base.{Base}
use Rattle.cached_frag.specs.declared.bases.Base.TheVariants.{Fresh, Stored}
use Rattle.cached_frag.specs.declared.fragments.Store.{Store}
use Rattle.cached_frag.specs.declared.fragments.Store.TheVariants.{Fresh as NeverCommitted, Stored as Committed, Named}
use Rattle.cached_frag.specs.Cached.{Cached}

-- a fragment with neither names nor room for any
abbrev pub nameless : Base → ℕ → Cached
nameless base generation =
    record { base = base; generation = generation; clean = map.empty; dirty = map.empty; room = 0; places = 0 }

abbrev pub cached_by : Store → Cached
cached_by (NeverCommitted alloc generation) = nameless Fresh generation
cached_by (Committed alloc version generation) = nameless (Stored version) generation
cached_by (Named f) = f.value
