use Rattle.script_text.proofs.Common.{Consumes_shown, FillKeeps, ap, arith, eqb-false, length, subst, sym, ◌+◌, ◌∙◌, ◌≢◌}
use Rattle.script_text.proofs.LineLemmas.{took_part, took_shown, took_line, overflows}
use Rattle.script_text.proofs.reading.input.take_shown.Goals as goal

pub returns-then-len-as_bytes-clause-long : goal.returns-then-len-as_bytes-clause-long
returns-then-len-as_bytes-clause-long g c = λ _.
    overflows (g.R.Read.remaining c.args.reader.now) c.in-Ok.shown.now c.split_at.result.0.now c.split_at.result.1.now c.args.line.now.line c.len_before_lf-len.result c.in-Ok.ensures.front
    c.len_before_lf-len.ensures.value c.split_at.ensures.front c.split_at.ensures.by_index.0 (omega (arith, ap length c.as_bytes.ensures.bytes))

pub returns-then-not-is_empty-clause-moves : goal.returns-then-not-is_empty-clause-moves
returns-then-not-is_empty-clause-moves g c =
    let shown = c.in-Ok.shown.now in
    let part = c.split_at.result.0.now in
    let rest = c.split_at.result.1.now in
    let len = c.len_before_lf-len.result in
    let rested = c.fill_buf.follows.lender-at-none in
    let filled = subst (FillKeeps _ (g.R.Read.remaining rested) (g.R.BufRead.consumable_len rested)) c.in-Ok.is c.fill_buf.follows.holds-at-none in
    let some : length rest ≢ 0 = eqb-false (length rest) 0 (sym c.is_empty.ensures ∙ c.if-not-is_empty.true) in (
      part,
      took_part shown part len c.len_before_lf-len.ensures.value c.split_at.ensures.front,
      ap (λ b. b.line) c.append.ensures,
      took_line _ _ shown part rest len c.len_before_lf-len.ensures.value c.split_at.ensures.front c.split_at.ensures.back some
          (λ within. (Consumes_shown _ _ _ _ shown (len + 1) within c.in-Ok.ensures.front c.in-Ok.ensures.end filled.0 filled.1 c.consume.ensures.bytes).0),
    )

pub returns-else-len-eq0-clause-moves : goal.returns-else-len-eq0-clause-moves
returns-else-len-eq0-clause-moves g c =
    let shown = c.in-Ok.shown.now in
    let part = c.split_at.result.0.now in
    let len = c.len_before_lf-len.result in
    let rested = c.fill_buf.follows.lender-at-none in
    let filled = subst (FillKeeps _ (g.R.Read.remaining rested) (g.R.BufRead.consumable_len rested)) c.in-Ok.is c.fill_buf.follows.holds-at-none in
    let moved = Consumes_shown _ _ _ _ shown len c.len_before_lf-len.ensures.bound c.in-Ok.ensures.front c.in-Ok.ensures.end filled.0 filled.1 c.consume-2.ensures.bytes in (
      part,
      took_part shown part len c.len_before_lf-len.ensures.value c.split_at.ensures.front,
      omega (arith, c.if-len-eq0.false, c.split_at.ensures.front_len),
      ap (λ b. b.line) c.append.ensures,
      took_shown _ _ shown part len c.split_at.ensures.front moved.0,
    )
