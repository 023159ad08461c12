use Rattle.script_words.proofs.FormLemmas.{name_fails_on}
use Rattle.script_words.proofs.arguments.escaped_name.Goals as goal

pub returns-in-Err : goal.returns-in-Err
returns-in-Err c = name_fails_on c.in-Err.error c.args.word.now (rw c.in-Err.is at c.text.ensures)
