use Rattle.cached_frag.proofs.Common.{List, Mark, ap, arith, contents, key_cmp, len-entries, length, sym, with_marks, ℕ, ◌∙◌, ◌≡◌}
use Rattle.std.specs.FinMap as map
use Rattle.cached_frag.proofs.MarkLaws.{patched_is}
use Rattle.cached_frag.proofs.named.settling.make_clean.Goals as goal

pub loop-name-init : goal.loop-name-init
loop-name-init c =
    let rows : c.into_iter-name-iterator.result ≡ map.entries (contents key_cmp c.args.dirty) = c.into_iter-name-iterator.ensures.into_iter_gives in
    let count : length c.into_iter-name-iterator.result ≡ length (map.entries (contents key_cmp c.args.dirty)) = ap (length {A = List ℕ × Mark}) rows in
    record {
      whole = ap (with_marks (contents key_cmp c.args.clean.now)) rows ∙ patched_is (contents key_cmp c.args.clean.now) (contents key_cmp c.args.dirty);
      few = omega (arith, count, len-entries (contents key_cmp c.args.dirty), c.requires);
    }

pub returns : goal.returns
returns c = sym (ap (with_marks (contents key_cmp c.loop-name.clean)) c.in-None.ensures.steps.0) ∙ c.loop-name.invariant.whole
