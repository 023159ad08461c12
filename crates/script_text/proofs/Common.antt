-- Names of other crates, and of this one's definitions, as the proofs of this crate take them.
pub use Rattle.script_text.specs.Input.{GivesLine, IsFirstLine, IsTooLong}
pub use Rattle.script_text.specs.Looks.{IsOfOneLine, Moves, Overflows, is_not_lf}
pub use Rattle.script_text.specs.Texts.{FailsForText, GivesText, HasText, HoldsName}
pub use Rattle.script_text.specs.declared.reading.input.LineFault.{LineFault}
pub use Rattle.script_text.specs.declared.reading.input.Shown.TheVariants.{InputEnd, LineEnd, More}
pub use Rattle.script_words.proofs.FormLemmas.{fails_on, form_of_name, form_of_target, form_on}
pub use Rattle.script_words.specs.Arguments.{is_dash, name_of, target_of_word, text_of_word, two_texts_of, word_name_of}
pub use Rattle.script_words.specs.Reading.{Fails, GivesWord, HasForm, wanted, ◌>>=◌}
pub use Rattle.script_words.specs.declared.faults.Fault.{Fault}
pub use Rattle.script_words.specs.declared.faults.Fault.TheVariants.{BadWord, NotCommand}
pub use Rattle.script_words.specs.declared.faults.ReadError.{ReadError}
pub use Rattle.std.proofs.BufReadLemmas.{Consumes_shown}
pub use Rattle.std.proofs.Common.{Bool, Err, IfSome, List, None, Ok, Option, Result, Some, [], ap, append-nil, append_assoc, arith, cond, drop, eqb, eqb-true, false, length, length-append, length-drop, not, refl, subst, suc, sym, take, take-append-drop, true, zero, ℕ, ◌&&◌, ◌++◌, ◌+◌, ◌-◌, ◌<◌, ◌==◌, ◌∙◌, ◌∷◌, ◌≡◌, ◌≢◌, ◌≤◌}
pub use Rattle.std.proofs.Math.Numerals.{one-add}
pub use Rattle.std.proofs.lemmas.Bool.{eqb-false}
pub use Rattle.std.proofs.lemmas.Str.{IsUtf8-from_is_utf8, is_utf8-from_IsUtf8}
pub use Rattle.std.specs.Io.{StartsWith}
pub use Rattle.std.specs.Io.BufRead.{FillKeeps}
pub use Rattle.std.specs.Io.KnownBytes.{Consumes}
pub use Rattle.std.specs.List.{list_all, onto_first, prefix_len}
pub use Rattle.std.specs.Prelude.{slice_index}
pub use Rattle.std.specs.Result.{IsErr, IsErrAnd}
pub use Rattle.std.specs.Str.{IsUtf8, is_utf8}
