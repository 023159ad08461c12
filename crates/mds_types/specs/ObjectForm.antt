-- A text that names an object, by what is kept of it.
use Rattle.std.specs.Prelude.{ℕ, List}
use Rattle.mds_types.specs.declared.object_texts.Form.{Form}
use Rattle.mds_types.specs.declared.object_texts.Form.TheVariants.{Object, Other}
use Rattle.mds_types.specs.declared.object_texts.LentText.{LentText}
use Rattle.mds_types.specs.declared.object_texts.LentText.TheVariants.{Kept, Spelt}
use Rattle.mds_types.specs.ObjectText.{object_text}

-- the text of an object's name, or another
abbrev pub text_in : Form → List ℕ
text_in (Object object) = object_text object
text_in (Other text) = text

-- the one that is kept, or spelt
abbrev pub text_lent : LentText → List ℕ
text_lent (Kept text) = text.now
text_lent (Spelt text) = text
