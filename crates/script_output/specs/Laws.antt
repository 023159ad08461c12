-- What holds of the script's text as a whole.
use Rattle.std.specs.Prelude.{◌≡◌, ℕ, ◌^◌, ◌<◌, ◌≤◌, List, Some, All, Ok}
use Rattle.mds_types.specs.Frag.{Fragment, IsFragment, fragment_text}
use Rattle.script_words.specs.Fragments.{frag_of}
use Rattle.script_words.specs.Escapes.{bytes_of}
use Rattle.script_output.specs.Escapes.{escaped}
use Rattle.script_words.specs.Numbers.{number_of, octal_mode_of}
use Rattle.script_output.specs.Texts.{hexadecimal, octal}
use Rattle.std.specs.Fmt.{decimal}

-- what is printed of a name, a target or a key stands for its bytes
abbrev pub NamesReadBack : Type 0
NamesReadBack = (bytes : List ℕ) → All (λ byte. byte < 256) bytes → bytes_of (escaped bytes) ≡ Some bytes

-- what is printed of a fragment stands for it
abbrev pub FragmentsReadBack : Type 0
FragmentsReadBack = (frag : Fragment) → IsFragment frag → frag_of (fragment_text frag) ≡ Ok frag

-- what is printed of an inode number, another number or a mode stands for it
abbrev pub NumbersReadBack : Type 0
NumbersReadBack =
    (n : ℕ) → (n < 2 ^ 64 → number_of 16 (hexadecimal n) ≡ Some n) × (n < 2 ^ 64 → number_of 10 (decimal n) ≡ Some n)
    × (n ≤ 4095 → octal_mode_of (octal n) ≡ Some n)
