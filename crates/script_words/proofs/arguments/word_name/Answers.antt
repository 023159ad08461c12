use Rattle.script_words.proofs.Common.{subst, sym, ◌∙◌}
use Rattle.script_words.proofs.FormLemmas.{name_by_itself}
use Rattle.script_words.specs.Reading.{GivesWord}
use Rattle.script_words.proofs.arguments.word_name.Goals as goal

pub returns-then-is_plain : goal.returns-then-is_plain
returns-then-is_plain c =
    subst (λ read. GivesWord (λ name. name) c.plain_name.result read)
    (name_by_itself c.args.word.now (sym c.is_plain.ensures ∙ c.if-is_plain.true)) c.plain_name.ensures
