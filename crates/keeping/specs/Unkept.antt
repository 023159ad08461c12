-- Why objects aren't kept, in one word.
use Rattle.std.specs.Prelude.{ℕ, List, codes}
use Rattle.keeping.specs.declared.unkept.Unkept.{Unkept}
use Rattle.keeping.specs.declared.unkept.Unkept.TheVariants.{NoMemory, Full, Io, Corrupt, Shut}

-- the word that a line of output prints after `unsaved`
abbrev pub unkept_word : Unkept → List ℕ
unkept_word NoMemory = codes "memory"
unkept_word Full = codes "full"
unkept_word Io = codes "io"
unkept_word Corrupt = codes "corrupt"
unkept_word Shut = codes "shut"
