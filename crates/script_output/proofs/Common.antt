-- Names of other crates, and of this one's definitions, as the proofs of this crate take them.
pub use Rattle.mds_types.specs.Frag.{Fragment, IsFragment, digit_at, fragment_text, span}
pub use Rattle.script_output.specs.Escapes.{escaped, prints_plain}
pub use Rattle.script_output.specs.Texts.{spaced_frag, listed_text, root_text, spaced_word}
pub use Rattle.script_output.specs.Writing.{Pushes, PushesMade}
pub use Rattle.script_words.proofs.EscapeLemmas.{bytes_of-escape, bytes_of-plain}
pub use Rattle.script_words.specs.Escapes.{hex_byte_of, hex_digit_of, onto}
pub use Rattle.script_words.specs.Fragments.{before_last, ends_in_star, fragment_of_digits}
pub use Rattle.script_words.specs.Numbers.{are_digits, digit_of, is_shortest, number_of, octal_mode_of, value_of}
pub use Rattle.script_words.specs.Reading.{wanted}
pub use Rattle.std.proofs.Common.{All, Bool, Err, IfOk, IsErr, List, None, Ok, Option, Result, Some, [], ap, append-nil, append_assoc, arith, cond, drop, eq-eqb, eqb, eqb-true, false, le-leb, leb, length, length-append, length-drop, length-set, lt-ltb, ltb, map, ne_eqb, not, refl, set, subst, suc, sym, take, take-append-drop, true, zero, ℕ, ◌%◌, ◌&&◌, ◌*◌, ◌++◌, ◌+◌, ◌-◌, ◌/◌, ◌<◌, ◌^◌, ◌∙◌, ◌∷◌, ◌≡◌, ◌≢◌, ◌≤◌}
pub use Rattle.std.proofs.Math.Nat.{div-add-mod, div-div-eq-div-mul, div-eq_of_lt, div-lt_iff_lt-mul, mod-eq_of_lt, mod-lt, mul-zero, one-mul, pow-le-pow_left, pow-suc, pow-zero, zero-div}
pub use Rattle.std.proofs.Math.Numerals.{add-one}
pub use Rattle.std.proofs.Math.Seq.{get_or-append_seam, take-add, take-append_seam}
pub use Rattle.std.proofs.lemmas.Bool.{eqb-false}
pub use Rattle.std.proofs.lemmas.Bool.Decides.{nat_tests}
pub use Rattle.std.proofs.lemmas.Fmt.{length-decimal-le}
pub use Rattle.std.proofs.lemmas.List.{drop-set}
pub use Rattle.std.proofs.lemmas.List.Elements.{All-head, All-tail}
pub use Rattle.std.proofs.lemmas.List.FromFn.{length-map-range_with_len, map-range_with_len_more}
pub use Rattle.std.specs.Fmt.{HasWritten, IsPlainFormatter, decimal, digit_glyph, digits, digits_onto}
pub use Rattle.std.specs.Io.KnownBytes.{Appends}
pub use Rattle.std.specs.List.{flat_map, fold, range_with_len}
pub use Rattle.std.specs.Prelude.{string_bytes, ◌==◌}
