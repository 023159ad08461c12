-- All names are to come at first.
use Rattle.cached_frag.proofs.Common.{List, Mark, ap, arith, contents, key_cmp, len-entries, length, refl, settled_in, sym, ℕ, ◌∙◌, ◌≡◌}
use Rattle.std.specs.FinMap as map
use Rattle.cached_frag.proofs.SettledLaws.{settled_is}
use Rattle.cached_frag.proofs.named.settling.settle_each.Goals as goal

pub loop-name-init : goal.loop-name-init
loop-name-init c =
    let rows : c.into_iter-name-iterator.result ≡ map.entries c.args.names.now = c.into_iter-name-iterator.ensures.into_iter_gives ∙ ap map.entries c.as_map-name-items.ensures.names in
    let count : length c.into_iter-name-iterator.result ≡ length (map.entries c.args.names.now) = ap (length {A = List ℕ × Mark}) rows in
    record {
      dirty = ap (settled_in (contents key_cmp c.args.dirty.now)) rows;
      shown = refl;
      entries = c.requires.entries;
      marks = c.requires.marks;
      room = omega (arith, count, len-entries c.args.names.now, c.requires.room);
    }

pub returns-clause-dirty : goal.returns-clause-dirty
returns-clause-dirty c = sym (ap (settled_in (contents key_cmp c.loop-name.dirty)) c.in-None.ensures.steps.0) ∙ c.loop-name.invariant.dirty ∙ settled_is (contents key_cmp c.args.dirty.now) c.args.names.now
