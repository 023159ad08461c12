use Rattle.script_words.proofs.NameLemmas.{name_of-name, name_of-long, name_of-invalid}
use Rattle.script_words.proofs.arguments.name.Goals as goal

pub returns-in-Ok : goal.returns-in-Ok
returns-in-Ok c = name_of-name c.args.bytes c.in-Ok.name c.in-Ok.ensures.made

pub returns-in-Err-Invalid : goal.returns-in-Err-Invalid
returns-in-Err-Invalid c = name_of-invalid c.args.bytes (rw c.in-Err-Invalid.field-0-is at c.in-Err-Invalid.ensures.made)

pub returns-in-Err-TooLong : goal.returns-in-Err-TooLong
returns-in-Err-TooLong c = name_of-long c.args.bytes (rw c.in-Err-TooLong.field-0-is at c.in-Err-TooLong.ensures.made)
