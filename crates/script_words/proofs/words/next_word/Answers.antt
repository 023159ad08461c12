use Rattle.script_words.proofs.Common.{arith, eqb-false, eqb-true, length, sym, ◌<◌, ◌∙◌, ◌≢◌}
use Rattle.script_words.proofs.WordLemmas.{no_word, first_word}
use Rattle.script_words.proofs.words.next_word.Goals as goal

pub returns-then-is_empty : goal.returns-then-is_empty
returns-then-is_empty c =
    no_word c.args.bytes.now c.split_at.result.1.now c.spaces_len.result c.spaces_len.ensures.value c.split_at.ensures.back
    (eqb-true (length c.split_at.result.1.now) 0 (sym c.is_empty.ensures ∙ c.if-is_empty.true))

pub returns : goal.returns
returns c =
    let front = c.split_at.result.1.now in
    let not_empty : length front ≢ 0 = eqb-false (length front) 0 (sym c.is_empty.ensures ∙ c.if-is_empty.false) in
    let some : 0 < length front = omega arith in
    rw c.split_at-2.ensures.front (rw c.split_at-2.ensures.back
    (first_word c.args.bytes.now front c.spaces_len.result c.word_len.result c.spaces_len.ensures.value c.split_at.ensures.back some c.word_len.ensures.value))
