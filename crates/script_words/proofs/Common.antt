-- Names of other crates, and of this one's definitions, as the proofs of this crate take them.
pub use Rattle.mds_types.specs.Frag.{Fragment, IsFragment, span}
pub use Rattle.mds_types.specs.Name.{IsName, fits_name, fits_target, is_dots}
pub use Rattle.script_words.specs.Arguments.{is_plain_name}
pub use Rattle.script_words.specs.Escapes.{bytes_of, hex_byte_of, onto}
pub use Rattle.script_words.specs.Fragments.{fragment_of_digits}
pub use Rattle.script_words.specs.Numbers.{are_digits, digit_of, octal_mode_of, value_of}
pub use Rattle.script_words.specs.Reading.{Fails, HasForm, wanted, ◌>>=◌}
pub use Rattle.script_words.specs.Words.{is_not_space, is_space, is_word}
pub use Rattle.script_words.specs.declared.faults.Fault.{Fault}
pub use Rattle.script_words.specs.declared.faults.Fault.TheVariants.{BadWord, NotCommand}
pub use Rattle.script_words.specs.declared.faults.ReadError.{ReadError}
pub use Rattle.std.proofs.Common.{Bool, Err, IfNone, IfSome, List, None, Ok, Option, Result, Some, SomeIff, [], ap, append-nil, arith, cond, drop, drop-cons, eqb, eqb-true, false, filter, get_or, is_some, le-leb, length, lt-ltb, ltb, ltb-true, nat_lt, ne_eqb, not, refl, subst, sym, take, true, ℕ, ◌&&◌, ◌*◌, ◌++◌, ◌+◌, ◌-◌, ◌<◌, ◌==◌, ◌^◌, ◌∙◌, ◌∷◌, ◌≡◌, ◌≢◌, ◌≤◌}
pub use Rattle.std.proofs.Math.Nat.{mul-le-mul_left, mul-le-mul_right, mul-lt-mul_of_pos_right, mul-mod_left, pow-le-pow_right, pow-suc}
pub use Rattle.std.proofs.Math.Numerals.{add-one, one-add}
pub use Rattle.std.proofs.lemmas.Bool.{and_parts, eqb-false, le-ltb}
pub use Rattle.std.proofs.lemmas.Nat.{one_shl, pow-add, pow_pos}
pub use Rattle.std.specs.List.{fold, list_all, onto_first, prefix_len, slice_split}
