use Rattle.script_words.proofs.Common.{sym, ◌∙◌}
use Rattle.script_words.proofs.EscapeLemmas.{end-escaped}
use Rattle.script_words.proofs.escapes.is_escaped.Goals as goal

pub returns : goal.returns
returns c = c.is_empty.ensures ∙ end-escaped c.loop-after.rest.now c.in_default.ensures.none ∙ sym c.loop-after.invariant
