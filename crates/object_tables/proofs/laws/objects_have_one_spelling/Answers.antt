use Rattle.object_tables.proofs.SpelledLaws.{one_spelling}
use Rattle.object_tables.proofs.laws.objects_have_one_spelling.Goals as goal

pub returns : goal.returns
returns c = one_spelling
