-- What is left to come in makes of the fragment what all names would.
use Rattle.cached_frag.proofs.Common.{AreEntries, List, contents, key_cmp, marked_as, shown_names, shown_as, ℕ, ◌+◌, ◌≡◌, ◌≤◌}
use Rattle.std.specs.FinMap as map
use Rattle.cached_frag.proofs.named.fragments.NamedFrag.join.Given as goal

abbrev pub invariant-loop-pair : goal.invariant-loop-pair
invariant-loop-pair l = record {
  dirty : (q : List ℕ) → marked_as l.fn.version (map.get (contents key_cmp l.names) q) (map.get l.self.dirty q) ≡ marked_as l.fn.version (map.get (contents key_cmp l.fn.names) q) (map.get l.fn.self.dirty q);
  shown : (q : List ℕ) → shown_as (map.get (contents key_cmp l.names) q) (map.get (shown_names l.self) q) ≡ shown_as (map.get (contents key_cmp l.fn.names) q) (map.get (shown_names l.fn.self) q);
  same : l.self ≡ record { base = l.fn.self.base; generation = l.fn.self.generation; clean = l.fn.self.clean; dirty = l.self.dirty; room = l.self.room; places = l.fn.self.places };
  room : l.self.room + map.len (contents key_cmp l.fn.names) ≡ l.fn.self.room + map.len (contents key_cmp l.names);
  few : map.len (contents key_cmp l.names) ≤ l.self.room;
  entries : AreEntries (contents key_cmp l.names);
}

abbrev pub decreases-loop-pair : goal.decreases-loop-pair
decreases-loop-pair l = map.len (contents key_cmp l.names)
