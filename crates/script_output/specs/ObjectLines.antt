-- What is printed of one object of the store, without the line's LF.
use Rattle.std.specs.Prelude.{ℕ, List, codes}
use Rattle.script_output.specs.declared.object_lines.ObjectLine.{ObjectLine}
use Rattle.script_output.specs.declared.object_lines.ObjectLine.TheVariants.{Frag, Tree, Absent, Damaged}
use Rattle.script_output.specs.Texts.{frag_text, printed_tree}

-- the line of an object: a fragment's, a fragment tree's, of an object that isn't there, or of one that is neither
abbrev pub object_line_text : ObjectLine → List ℕ
object_line_text (Frag version files dirs keys) = frag_text version files dirs keys
object_line_text (Tree leaves) = printed_tree leaves
object_line_text Absent = codes "absent"
object_line_text Damaged = codes "damaged"
