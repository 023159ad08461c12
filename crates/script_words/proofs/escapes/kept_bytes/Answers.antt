use Rattle.script_words.proofs.Common.{Some, ap, bytes_of, eqb-true, length, sym, ◌∙◌}
use Rattle.script_words.proofs.EscapeLemmas.{before-nothing, bytes_of-itself}
use Rattle.script_words.proofs.escapes.kept_bytes.Goals as goal

pub returns-then-is_plain : goal.returns-then-is_plain
returns-then-is_plain c =
    ap (λ bytes. Some bytes) c.in_ok-from_slice.ensures.copy
    ∙ bytes_of-itself c.args.word.now (sym c.is_plain.ensures ∙ c.if-is_plain.true)

pub returns-in_ok-from_vec : goal.returns-in_ok-from_vec
returns-in_ok-from_vec c =
    ap (λ bytes. Some bytes) c.in_ok-from_vec.ensures.made
    ∙ before-nothing c.loop-byte.bytes.items c.loop-byte.rest.now (bytes_of c.args.word.now) c.loop-byte.invariant
    (eqb-true (length c.loop-byte.rest.now) 0 (sym c.is_empty.ensures ∙ c.if-is_empty.true))
