use Rattle.mds_types.proofs.Common.{ap, codes, digits, has_written_of_eq, object_text, rules, sym, word_text, ◌∙◌}
use Rattle.std.proofs.Common.{◌++◌, false}
use Rattle.mds_types.proofs.ObjectTextLaws.{word_padded}
use Rattle.mds_types.proofs.object_names.ObjNameDisplay.fmt.Goals as goal

-- the fragment's word is padded to 8 digits
pub returns-in-Frag-clause-writes : goal.returns-in-Frag-clause-writes
returns-in-Frag-clause-writes g c = λ plain ok.
    has_written_of_eq _ _ _ _ _
    (ap (λ t. digits 16 false c.in-Frag.ino.0 ++ (codes "." ++ t)) (word_padded c.word-word.result ∙ ap word_text c.word-word.ensures) ∙ ap object_text (sym c.in-Frag.is))
    (search rules)
