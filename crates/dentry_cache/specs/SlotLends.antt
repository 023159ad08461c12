-- What the places end as, once a reference into them has ended.
use Rattle.std.specs.Prelude.{Bool, Option}
use Rattle.std.specs.Borrow.{Fml, MutBor, LendsIf}
use Rattle.std.specs.Map.{set_value}
use Rattle.lru.specs.LruCache.{lru_cache}
use Rattle.dentry_cache.specs.Cache.{Held, Leaf, Places}
use Rattle.dentry_cache.specs.contracts.place_lru.PlaceLru.{the_row as places_row}
use Rattle.dentry_cache.specs.contracts.cache.Place.{the_row as place_row}
use Rattle.dentry_cache.specs.declared.cache.Place.{Place}

-- they are these, with the last value written through r for the leaf that passes the test, and at `None` stay as they are
abbrev pub lends_place : MutBor Held → (Leaf → Bool) → Places → Option (MutBor Place) → Fml
lends_place m test places r = LendsIf places_row place_row m r (λ w. lru_cache (set_value test places w) m.now.cap) m.now
