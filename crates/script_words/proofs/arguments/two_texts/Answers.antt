use Rattle.script_words.proofs.Common.{sym, ◌∙◌}
use Rattle.script_words.proofs.FormLemmas.{form_of_text, form_of_two, two_without}
use Rattle.script_words.proofs.arguments.two_texts.Goals as goal

pub returns-then-is_escaped : goal.returns-then-is_escaped
returns-then-is_escaped c =
    form_of_two _ _ (rw c.in-Err-NoMemory.field-0-is at c.in-Err-NoMemory.ensures) (form_of_text c.args.other.now (sym c.is_escaped.ensures ∙ c.if-is_escaped.true))

pub returns-else-is_escaped : goal.returns-else-is_escaped
returns-else-is_escaped c =
    two_without _ _ (rw c.in-Err-NoMemory.field-0-is at c.in-Err-NoMemory.ensures) (sym c.if-is_escaped.false ∙ c.is_escaped.ensures)
