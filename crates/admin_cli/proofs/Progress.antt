-- A script so far, and what its next line or its end makes of it.
use Rattle.admin_cli.proofs.Common.{Admin, AnswersLine, Appends, Appends-nil, Appends-trans, Bool, Breaks, BreaksOff, Command, DoesBytes, EndsScript, Err, FaultKind, IfOk, IfSome, IsEmpty, IsFirstLine, IsFormatted, IsTooLong, Keeps, KeptState, LacksForCommand, List, Mark, MayFlush, None, NotCommand, Ok, OnErr, Option, OutOfMemory, OutputLine, Prints, PrintsAny, PrintsCame, PrintsOf, PrintsOwn, ReadFault, Result, RunsInput, RunsLine, RunsLines, RunsNew, RunsOrNot, RunsWaiting, ScriptFault, Some, StopsAt, StopsBefore, TooLong, Waiting, WriteFault, [], ap, append-nil, append_assoc, arith, begun, cond, drop, false, inl, inr, le-ltb, length, length-append, length-drop, length-replicate, line_at, lines_of, lt-ltb, ltb, ltb-false, ltb-true, refl, replicate, subst, suc, sym, take, take-append-drop, take-append-le, line_text, true, ℕ, ◌++◌, ◌+◌, ◌-◌, ◌<◌, ◌∙◌, ◌∷◌, ◌≡◌, ◌≤◌}
use Rattle.script_text.specs.declared.lines.Line.TheVariants as line
use Rattle.admin_cli.specs.Scripts.{Doing}

module _ (Does : Doing) where
  -- these lines were taken from the known bytes
  abbrev pub TakesLines : Option (List ℕ) → Option (List ℕ) → List (List ℕ) → Type 0
  TakesLines None left done = Unit {0}
  TakesLines (Some bytes) None done = ⊥
  TakesLines (Some bytes) (Some rest) done = lines_of bytes ≡ done ++ lines_of rest

  -- lines were done in which a text broke off: those before its line are done, and of that line's text a beginning is in what is written
  pub record BreaksAt (old : Admin) (done : List (List ℕ)) (written : List ℕ) (line : ℕ) : Type 0 where
    pub before : List (List ℕ)
    pub bytes : List ℕ
    pub others : List (List ℕ)
    pub lines : done ≡ before ++ bytes ∷ others
    pub reached : Admin
    pub text : List ℕ
    pub runs : RunsLines Does old reached before text
    pub front : List ℕ
    pub breaks : BreaksOff Does reached bytes front
    pub count : line ≡ length before + 1
    pub all : written ≡ text ++ front

  -- a script before its line of this number: the lines so far were taken and done, and their text is written but for what waits. Each
  -- byte that waits is of the line that its mark tells
  pub record IsReached (old now : Admin) (known left before after : Option (List ℕ)) (bytes : List ℕ) (marks : List Mark) (number : ℕ) : Type 0 where
    pub done : List (List ℕ)
    pub text : List ℕ
    pub taken : TakesLines known left done
    pub count : number ≡ length done + 1
    pub runs : RunsLines Does old now done (text ++ bytes)
    pub written : Appends before after text
    pub named : (place : ℕ) → place < length bytes → BreaksAt old done (text ++ take place bytes) (line_at marks place)
    pub past : (place : ℕ) → length bytes ≤ place → (more : List Mark) → line_at (marks ++ more) place ≡ line_at more place

  -- before the first line
  pub begin : (old : Admin) (known before : Option (List ℕ)) (bytes : List ℕ) (marks : List Mark) → bytes ≡ [] → marks ≡ [] → IsReached old old known known before before bytes marks 1
  begin old known before bytes marks none no_marks = subst (λ b. IsReached old old known known before before b marks 1) (sym none) (subst (λ m. IsReached old old known known before before [] m 1) (sym no_marks) (record {
    done = [];
    text = [];
    taken = at known;
    count = refl;
    runs = (refl, refl);
    written = Appends-nil before;
    named = λ place few. absurd (omega arith);
    past = λ place few more. refl;
  }))
    where
      at : (known : Option (List ℕ)) → TakesLines known known []
      at None = tt
      at (Some bytes) = refl

  -- one line after others
  pub runs-append : (old now new : Admin) (done : List (List ℕ)) (bytes text more : List ℕ) → RunsLines Does old now done text → RunsLine Does now new bytes more → RunsLines Does old new (done ++ bytes ∷ []) (text ++ more)
  runs-append old now new [] bytes text more (same, none) run =
      (new, more, [], subst (λ a. RunsLine Does a new bytes more) same run, (refl, refl), ap (λ t. t ++ more) none ∙ sym (append-nil more))
  runs-append old now new (first ∷ done) bytes text more (middle, front, rest, one, others, whole) run =
      (middle, front, rest ++ more, one, runs-append middle now new done bytes rest more others run, ap (λ t. t ++ more) whole ∙ append_assoc front rest more)

  -- one more line was taken
  pub takes-next : (known left after : Option (List ℕ)) (done : List (List ℕ)) (line : List ℕ) → TakesLines known left done → IfSome left (λ bytes. IsFirstLine bytes line after) → TakesLines known after (done ++ line ∷ [])
  takes-next None left after done line taken next = tt
  takes-next (Some bytes) None after done line taken next = absurd taken
  takes-next (Some bytes) (Some rest) after done line taken next =
      subst (λ a. TakesLines (Some bytes) a (done ++ line ∷ [])) (sym next.left_is)
      (taken ∙ ap (λ l. done ++ l) next.lines ∙ sym (append_assoc done (line ∷ []) (lines_of next.rest)))

  -- a text broke off in lines that others follow
  breaks-then : (old : Admin) (done : List (List ℕ)) (written : List ℕ) (line : ℕ) (more : List (List ℕ)) → BreaksAt old done written line → BreaksAt old (done ++ more) written line
  breaks-then old done written line more b = record {
    before = b.before;
    bytes = b.bytes;
    others = b.others ++ more;
    lines = ap (λ l. l ++ more) b.lines ∙ append_assoc b.before (b.bytes ∷ b.others) more;
    reached = b.reached;
    text = b.text;
    runs = b.runs;
    front = b.front;
    breaks = b.breaks;
    count = b.count;
    all = b.all;
  }

  -- a mark that tells a line tells it before others too
  told-first : (marks more : List Mark) (place : ℕ) → 0 < line_at marks place → line_at (marks ++ more) place ≡ line_at marks place
  told-first [] more place some = absurd (omega arith)
  told-first (mark ∷ marks) more place some = at (ltb place mark.end) some (told-first marks more place)
    where
      at : (b : Bool) → 0 < cond b mark.line (line_at marks place) → (0 < line_at marks place → line_at (marks ++ more) place ≡ line_at marks place)
          → cond b mark.line (line_at (marks ++ more) place) ≡ cond b mark.line (line_at marks place)
      at true some next = refl
      at false some next = next some

  -- the first of two texts, and a beginning of the second
  take-past : (first second : List ℕ) (k : ℕ) → take (length first + k) (first ++ second) ≡ first ++ take k second
  take-past [] second k = ap (λ n. take n second) (omega arith)
  take-past (byte ∷ first) second k = ap (λ n. take n (byte ∷ first ++ second)) (let e : length (byte ∷ first) + k ≡ suc (length first + k) = omega arith in e) ∙ ap (λ l. byte ∷ l) (take-past first second k)

  module _ (old now new : Admin) (known left rest before after : Option (List ℕ)) (bytes : List ℕ) (marks : List Mark) (number : ℕ) (line : List ℕ)
      (r : IsReached old now known left before after bytes marks number) (next : IfSome left (λ known. IsFirstLine known line rest)) where
    -- the next line was taken and done, and prints nothing
    pub go_on_quietly : RunsLine Does now new line [] → IsReached old new known rest before after bytes marks (number + 1)
    go_on_quietly run = record {
      done = r.done ++ line ∷ [];
      text = r.text;
      taken = takes-next known left rest r.done line r.taken next;
      count = omega (arith, r.count, length-append r.done (line ∷ []));
      runs = subst (RunsLines Does old new (r.done ++ line ∷ [])) (append-nil (r.text ++ bytes)) (runs-append old now new r.done line (r.text ++ bytes) [] r.runs run);
      written = r.written;
      named = λ place few. breaks-then old r.done (r.text ++ take place bytes) (line_at marks place) (line ∷ []) (r.named place few);
      past = r.past;
    }

    -- the next line was taken and done, and its text waits
    pub go_on_waiting : (more : List ℕ) → RunsLine Does now new line more
        → IsReached old new known rest before after (bytes ++ more) (marks ++ record { line = number; end = length (bytes ++ more) } ∷ []) (number + 1)
    go_on_waiting more run = record {
      done = r.done ++ line ∷ [];
      text = r.text;
      taken = takes-next known left rest r.done line r.taken next;
      count = omega (arith, r.count, length-append r.done (line ∷ []));
      runs = subst (RunsLines Does old new (r.done ++ line ∷ [])) (append_assoc r.text bytes more) (runs-append old now new r.done line (r.text ++ bytes) more r.runs run);
      written = r.written;
      named = λ place few. at-place place few (ltb place (length bytes)) refl;
      past = λ place past others.
          append_assoc-marks place others ∙ r.past place (omega (arith, past, length-append bytes more)) (mark ∷ others) ∙ ap (λ b. cond b number (line_at others place)) (le-ltb place (length (bytes ++ more)) past);
    }
      where
        mark : Mark
        mark = record { line = number; end = length (bytes ++ more) }

        append_assoc-marks : (place : ℕ) (others : List Mark) → line_at ((marks ++ mark ∷ []) ++ others) place ≡ line_at (marks ++ mark ∷ others) place
        append_assoc-marks place others = ap (λ l. line_at l place) (append_assoc marks (mark ∷ []) others)

        -- a byte that waited before, or one of this line's text
        at-place : (place : ℕ) → place < length (bytes ++ more) → (b : Bool) → ltb place (length bytes) ≡ b
            → BreaksAt old (r.done ++ line ∷ []) (r.text ++ take place (bytes ++ more)) (line_at (marks ++ mark ∷ []) place)
        at-place place few true e =
            let before = ltb-true place (length bytes) e in
            let b = r.named place before in
            let tells = told-first marks (mark ∷ []) place (omega (arith, b.count)) in
            let same = take-append-le place bytes more (omega (arith, before)) in
            subst (λ n. BreaksAt old (r.done ++ line ∷ []) (r.text ++ take place (bytes ++ more)) n) (sym tells)
            (subst (λ t. BreaksAt old (r.done ++ line ∷ []) (r.text ++ t) (line_at marks place)) (sym same) (breaks-then old r.done (r.text ++ take place bytes) (line_at marks place) (line ∷ []) b))
        at-place place few false e =
            let past = ltb-false place (length bytes) e in
            let k = place - length bytes in
            record {
              before = r.done;
              bytes = line;
              others = [];
              lines = refl;
              reached = now;
              text = r.text ++ bytes;
              runs = r.runs;
              front = take k more;
              breaks = record {
                new = new;
                text = more;
                runs = run;
                rest = drop k more;
                left = omega (arith, few, past, length-append bytes more, length-drop k more);
                whole = sym (take-append-drop k more);
              };
              count = r.past place past (mark ∷ []) ∙ ap (λ b. cond b number 0) (lt-ltb place (length (bytes ++ more)) few) ∙ r.count;
              all = ap (λ t. r.text ++ t) (ap (λ n. take n (bytes ++ more)) (let e : place ≡ length bytes + k = omega (arith, past) in e) ∙ take-past bytes more k) ∙ sym (append_assoc r.text bytes (take k more));
            }

  -- all that waits was written
  pub flushed : (old now : Admin) (known left before mid after : Option (List ℕ)) (bytes : List ℕ) (marks : List Mark) (number : ℕ) → IsReached old now known left before mid bytes marks number → Appends mid after bytes
      → IsReached old now known left before after [] [] number
  flushed old now known left before mid after bytes marks number r wrote = record {
    done = r.done;
    text = r.text ++ bytes;
    taken = r.taken;
    count = r.count;
    runs = subst (RunsLines Does old now r.done) (sym (append-nil (r.text ++ bytes))) r.runs;
    written = Appends-trans before mid after r.text bytes r.written wrote;
    named = λ place few. absurd (omega arith);
    past = λ place few more. refl;
  }

  -- what is left are these lines
  abbrev pub IsLeft : Option (List ℕ) → List (List ℕ) → Type 0
  IsLeft left lines = IfSome left (λ bytes. lines_of bytes ≡ lines)

  pub all_lines : (known left : Option (List ℕ)) (done lines : List (List ℕ)) → TakesLines known left done → IsLeft left lines → IfSome known (λ bytes. done ++ lines ≡ lines_of bytes)
  all_lines None left done lines taken rest = tt
  all_lines (Some bytes) None done lines taken rest = absurd taken
  all_lines (Some bytes) (Some more) done lines taken rest = sym (taken ∙ ap (λ l. done ++ l) rest)

  -- whatever is left
  pub some_left : (left : Option (List ℕ)) → (lines : List (List ℕ)) × IsLeft left lines
  some_left None = ([], tt)
  some_left (Some bytes) = (lines_of bytes, refl)

  -- the script ends before these lines, with nothing that waits
  end : (old now : Admin) (known left before mid after : Option (List ℕ)) (number : ℕ) (r : IsReached old now known left before mid [] [] number) (lines : List (List ℕ)) (result : Result (Unit {0}) ScriptFault) (front : List ℕ)
      → IsLeft left lines → EndsScript Does now (length r.done) lines result front → Appends mid after front → RunsInput Does old known before after result
  end old now known left before mid after number r lines result front rest ends wrote = record {
    lines = r.done ++ lines;
    read = all_lines known left r.done lines r.taken rest;
    script = record {
      done = r.done;
      left = lines;
      whole = refl;
      new = now;
      text = r.text;
      runs = subst (RunsLines Does old now r.done) (append-nil r.text) r.runs;
      front = front;
      ended = ends;
      written = Appends-trans before mid after r.text front r.written wrote;
    };
  }

  -- a beginning of what waits was written
  broke : (old now : Admin) (known left before mid after : Option (List ℕ)) (bytes : List ℕ) (marks : List Mark) (number place : ℕ) (lines : List (List ℕ))
      → IsReached old now known left before mid bytes marks number → IsLeft left lines → place < length bytes → Appends mid after (take place bytes)
      → RunsInput Does old known before after (Err (record { line = line_at marks place; kind = WriteFault }))
  broke old now known left before mid after bytes marks number place lines r rest few wrote =
      let b = r.named place few in
      record {
        lines = r.done ++ lines;
        read = all_lines known left r.done lines r.taken rest;
        script = record {
          done = b.before;
          left = b.bytes ∷ b.others ++ lines;
          whole = ap (λ l. l ++ lines) b.lines ∙ append_assoc b.before (b.bytes ∷ b.others) lines;
          new = b.reached;
          text = b.text;
          runs = b.runs;
          front = b.front;
          ended = (b.count, (b.breaks.new, b.breaks));
          written = subst (Appends before after) b.all (Appends-trans before mid after r.text (take place bytes) r.written wrote);
        };
      }

  -- a fault while what waits is written
  pub break_off : (old now : Admin) (known left before mid after : Option (List ℕ)) (waiting : Waiting) (number : ℕ) (fault : ScriptFault)
      → IsReached old now known left before mid waiting.bytes.items waiting.marks.items number → Breaks waiting mid after fault → RunsInput Does old known before after (Err fault)
  break_off old now known left before mid after waiting number fault r b =
      let (lines, rest) = some_left left in
      subst (λ f. RunsInput Does old known before after (Err f)) (sym b.told) (broke old now known left before mid after waiting.bytes.items waiting.marks.items number b.place lines r rest b.short b.written)

  -- the script ends before these lines
  leave : (old now : Admin) (known left before mid : Option (List ℕ)) (waiting : Waiting) (number : ℕ) (r : IsReached old now known left before mid waiting.bytes.items waiting.marks.items number) (lines : List (List ℕ)) (result : Result (Unit {0}) ScriptFault)
      → IsLeft left lines → EndsScript Does now (length r.done) lines result [] → RunsWaiting Does old waiting known before mid result
  unfolding flushed
  leave old now known left before mid waiting number r lines result rest ends = record {
    whole = λ after wrote. end old now known left before after after number (flushed old now known left before mid after waiting.bytes.items waiting.marks.items number r wrote) lines result [] rest ends (Appends-nil after);
    broken = λ after fault b. break_off old now known left before mid after waiting number fault r b;
  }

  -- no line is left
  pub finish : (old now : Admin) (known left before mid : Option (List ℕ)) (waiting : Waiting) (number : ℕ) → IsReached old now known left before mid waiting.bytes.items waiting.marks.items number
      → IfSome left (λ bytes. lines_of bytes ≡ []) → RunsWaiting Does old waiting known before mid (Ok tt)
  finish old now known left before mid waiting number r none = leave old now known left before mid waiting number r [] (Ok tt) none (refl, refl)

  -- the reader failed before another line was read
  pub stop_reading : (old now : Admin) (known left before mid : Option (List ℕ)) (waiting : Waiting) (number : ℕ) → IsReached old now known left before mid waiting.bytes.items waiting.marks.items number
      → RunsWaiting Does old waiting known before mid (Err (record { line = number; kind = ReadFault }))
  stop_reading old now known left before mid waiting number r =
      let (lines, rest) = some_left left in
      leave old now known left before mid waiting number r lines (Err (record { line = number; kind = ReadFault })) rest (r.count, refl)

  -- there are lines of any length
  long_line : (n : ℕ) → (line : List ℕ) × (n < length line)
  long_line n = (replicate (suc n) 0, omega (arith, length-replicate {A = ℕ} (suc n) 0))

  -- a line that is too long is among those that are left
  long_left : (left : Option (List ℕ)) → IfSome left (λ bytes. IsTooLong bytes) → (line : List ℕ) × (others : List (List ℕ)) × (16384 < length line) × IsLeft left (line ∷ others)
  long_left None long = let (line, more) = long_line 16384 in (line, [], more, tt)
  long_left (Some bytes) long = (long.line, long.others, long.long, long.lines)

  -- the next line is too long
  pub stop_long : (old now : Admin) (known left before mid : Option (List ℕ)) (waiting : Waiting) (number : ℕ) → IsReached old now known left before mid waiting.bytes.items waiting.marks.items number
      → IfSome left (λ bytes. IsTooLong bytes) → RunsWaiting Does old waiting known before mid (Err (record { line = number; kind = TooLong }))
  stop_long old now known left before mid waiting number r long =
      let (line, others, more, rest) = long_left left long in
      leave old now known left before mid waiting number r (line ∷ others) (Err (record { line = number; kind = TooLong })) rest (r.count, (more, refl))

  -- what stops one line stops the lines that begin with it
  stops-first : (old new : Admin) (bytes : List ℕ) (others : List (List ℕ)) (kind : FaultKind) (front : List ℕ) → StopsAt Does old new bytes kind front → StopsBefore Does old (bytes ∷ others) kind front
  stops-first old new bytes others NotCommand front stops = (new, stops)
  stops-first old new bytes others TooLong front stops = absurd stops
  stops-first old new bytes others ReadFault front stops = absurd stops
  stops-first old new bytes others WriteFault front stops = (new, stops)
  stops-first old new bytes others OutOfMemory front stops = (new, stops)

  -- the lines that are left begin with the one that was read
  pub first_left : (left after : Option (List ℕ)) (line : List ℕ) → IfSome left (λ bytes. IsFirstLine bytes line after) → (others : List (List ℕ)) × IsLeft left (line ∷ others)
  first_left None after line next = ([], tt)
  first_left (Some bytes) after line next = (lines_of next.rest, next.lines)

  -- the line that was read stopped the script before it was printed
  pub stop_line : (old now new : Admin) (known left rest before mid : Option (List ℕ)) (waiting : Waiting) (number : ℕ) (bytes : List ℕ) (kind : FaultKind)
      → IsReached old now known left before mid waiting.bytes.items waiting.marks.items number → IfSome left (λ known. IsFirstLine known bytes rest) → DoesBytes Does now new bytes (Err kind)
      → RunsWaiting Does old waiting known before mid (Err (record { line = number; kind = kind }))
  stop_line old now new known left rest before mid waiting number bytes kind r next (stops, leaves) =
      let (others, all) = first_left left rest bytes next in
      leave old now known left before mid waiting number r (bytes ∷ others) (Err (record { line = number; kind = kind })) all (r.count, stops-first now new bytes others kind [] stops)

  -- nothing waits any longer, and the script has ended
  runs-on : (old : Admin) (known before after last : Option (List ℕ)) (result : Result (Unit {0}) ScriptFault) → RunsInput Does old known before after result → Appends after last [] → RunsInput Does old known before last result
  runs-on old known before after last result r wrote = record {
    lines = r.lines;
    read = r.read;
    script = record {
      done = r.script.done;
      left = r.script.left;
      whole = r.script.whole;
      new = r.script.new;
      text = r.script.text;
      runs = r.script.runs;
      front = r.script.front;
      ended = r.script.ended;
      written = subst (Appends before last) (append-nil (r.script.text ++ r.script.front)) (Appends-trans before after last (r.script.text ++ r.script.front) [] r.script.written wrote);
    };
  }

  ended : (old : Admin) (known before after : Option (List ℕ)) (waiting : Waiting) (result : Result (Unit {0}) ScriptFault) → IsEmpty waiting → RunsInput Does old known before after result → RunsWaiting Does old waiting known before after result
  ended old known before after waiting result (none, no_marks) r = record {
    whole = λ last wrote. runs-on old known before after last result r (subst (Appends after last) none wrote);
    broken = λ last fault b. let few : b.place < length waiting.bytes.items = b.short in absurd (omega (arith, ap length none));
  }

  module _ (old now : Admin) (known left before mid after : Option (List ℕ)) (waiting new : Waiting) (number : ℕ) (r : IsReached old now known left before mid waiting.bytes.items waiting.marks.items number) where
    -- what waits was written, or waits on
    pub settled : (done : Unit {0}) → MayFlush waiting new mid after (Ok done) → IsReached old now known left before after new.bytes.items new.marks.items number
    settled done (inl (same, kept)) =
        subst (λ (w : Waiting). IsReached old now known left before after w.bytes.items w.marks.items number) (sym same)
        (subst (λ (k : Option (List ℕ)). IsReached old now known left before k waiting.bytes.items waiting.marks.items number) (sym kept) r)
    settled done (inr ((none, no_marks), wrote)) =
        subst (λ b. IsReached old now known left before after b new.marks.items number) (sym none)
        (subst (λ m. IsReached old now known left before after [] m number) (sym no_marks) (flushed old now known left before mid after waiting.bytes.items waiting.marks.items number r wrote))

    -- the script ends at a fault while what waits is written
    pub stop_settling : (fault : ScriptFault) → MayFlush waiting new mid after (Err fault) → RunsWaiting Does old new known before after (Err fault)
    stop_settling fault (empty, b) = ended old known before after new (Err fault) empty (break_off old now known left before mid after waiting number fault r b)

  -- nothing written
  appends_nothing : (before after : Option (List ℕ)) → Keeps before after → Appends before after []
  appends_nothing None after kept = tt
  appends_nothing (Some bytes) None kept = absurd kept
  appends_nothing (Some bytes) (Some now) kept = subst (λ b. now ≡ b) (sym (append-nil bytes)) kept

  -- a line that was done was not printed to its end
  own_stops : (old new : Admin) (bytes : List ℕ) (printed : OutputLine) (kind : FaultKind) (before after : Option (List ℕ)) → RunsLine Does old new bytes (line_text printed) → Prints before after printed (Err kind)
      → (front : List ℕ) × StopsAt Does old new bytes kind front × Appends before after front
  own_stops old new bytes printed OutOfMemory before after run (kept, takes) = ([], (run.short, inr (inr (record { printed = printed; runs = run; takes = takes })), refl), appends_nothing before after kept)
  own_stops old new bytes printed WriteFault before after run wrote = (wrote.front, record { new = new; text = line_text printed; runs = run; rest = wrote.rest; left = wrote.left; whole = wrote.whole }, wrote.written)
  own_stops old new bytes printed NotCommand before after run never = absurd never
  own_stops old new bytes printed TooLong before after run never = absurd never
  own_stops old new bytes printed ReadFault before after run never = absurd never

  module _ (old now new : Admin) (known left rest before mid after : Option (List ℕ)) (waiting waiting' : Waiting) (number : ℕ) (line : List ℕ)
      (r : IsReached old now known left before mid waiting.bytes.items waiting.marks.items number) (next : IfSome left (λ known. IsFirstLine known line rest)) where
    -- the next line was taken and done, and its text waits or is written
    pub printed_on : (printed : Option OutputLine) (done : Unit {0}) → DoesBytes Does now new line (Ok printed) → PrintsAny waiting waiting' number printed mid after (Ok done)
        → IsReached old new known rest before after waiting'.bytes.items waiting'.marks.items (number + 1)
    printed_on None done run (same, kept, fine) =
        subst (λ (w : Waiting). IsReached old new known rest before after w.bytes.items w.marks.items (number + 1)) (sym same)
        (subst (λ (k : Option (List ℕ)). IsReached old new known rest before k waiting.bytes.items waiting.marks.items (number + 1)) (sym kept)
        (go_on_quietly old now new known left rest before mid waiting.bytes.items waiting.marks.items number line r next run))
    printed_on (Some printed) done run (inl (puts, kept)) =
        subst (λ (k : Option (List ℕ)). IsReached old new known rest before k waiting'.bytes.items waiting'.marks.items (number + 1)) (sym kept)
        (subst (λ b. IsReached old new known rest before mid b waiting'.marks.items (number + 1)) (sym puts.bytes)
        (subst (λ m. IsReached old new known rest before mid (waiting.bytes.items ++ line_text printed) m (number + 1)) (sym puts.marks)
        (go_on_waiting old now new known left rest before mid waiting.bytes.items waiting.marks.items number line r next (line_text printed) run)))
    printed_on (Some printed) done run (inr ((none, no_marks), wrote)) =
        subst (λ b. IsReached old new known rest before after b waiting'.marks.items (number + 1)) (sym none)
        (subst (λ m. IsReached old new known rest before after [] m (number + 1)) (sym no_marks)
        (flushed old new known rest before mid after (waiting.bytes.items ++ line_text printed) (waiting.marks.items ++ record { line = number; end = length (waiting.bytes.items ++ line_text printed) } ∷ []) (number + 1)
        (go_on_waiting old now new known left rest before mid waiting.bytes.items waiting.marks.items number line r next (line_text printed) run) wrote))

    own_ends : (printed : OutputLine) (fault : ScriptFault) → RunsLine Does now new line (line_text printed) → PrintsOwn waiting number printed mid after fault → RunsInput Does old known before after (Err fault)
    unfolding flushed
    own_ends printed fault run own =
        let (others, all) = first_left left rest line next in
        let (front, stops, wrote) = own_stops now new line printed own.kind own.middle after run own.prints in
        subst (λ f. RunsInput Does old known before after (Err f)) (sym own.told)
        (end old now known left before own.middle after number (flushed old now known left before mid own.middle waiting.bytes.items waiting.marks.items number r own.flushed) (line ∷ others)
        (Err (record { line = number; kind = own.kind })) front all (r.count, stops-first now new line others own.kind front stops) wrote)

    -- the script ends while the line is printed
    pub stop_printing : (printed : Option OutputLine) (fault : ScriptFault) → DoesBytes Does now new line (Ok printed) → PrintsAny waiting waiting' number printed mid after (Err fault) → RunsWaiting Does old waiting' known before after (Err fault)
    stop_printing None fault run (same, kept, never) = cc
    stop_printing (Some printed) fault run (empty, inl b) = ended old known before after waiting' (Err fault) empty (break_off old now known left before mid after waiting number fault r b)
    stop_printing (Some printed) fault run (empty, inr own) = ended old known before after waiting' (Err fault) empty (own_ends printed fault run own)

    -- the next line was taken and done, and its text, if it has any, waits or is written
    pub line_on : (done : Unit {0}) → PrintsOf (DoesBytes Does now new line) waiting waiting' number mid after (Ok done) → IsReached old new known rest before after waiting'.bytes.items waiting'.marks.items (number + 1)
    line_on done (inl (printed, run, prints)) = printed_on printed done run prints
    line_on done (inr (kind, stops, unprinted)) = let clash : ◌≡◌ {A = Result (Unit {0}) ScriptFault} (Ok done) (Err (record { line = number; kind = kind })) = unprinted.told in cc

    -- the script ends at the next line
    pub line_stops : (fault : ScriptFault) → PrintsOf (DoesBytes Does now new line) waiting waiting' number mid after (Err fault) → RunsWaiting Does old waiting' known before after (Err fault)
    line_stops fault (inl (printed, run, prints)) = stop_printing printed fault run prints
    line_stops fault (inr (kind, stops, unprinted)) =
        subst (λ (result : Result (Unit {0}) ScriptFault). RunsWaiting Does old waiting' known before after result) (sym unprinted.told)
        (subst (λ (w : Waiting). RunsWaiting Does old w known before after (Err (record { line = number; kind = kind }))) (sym unprinted.waits)
        (subst (λ (k : Option (List ℕ)). RunsWaiting Does old waiting known before k (Err (record { line = number; kind = kind }))) (sym unprinted.kept)
        (stop_line old now new known left rest before mid waiting number line kind r next stops)))

  -- a command was done and its line is printed, or there was no memory for what the script keeps of it
  pub command_printed : (old new : Admin) (command : Command) (waiting waiting' : Waiting) (number : ℕ) (before after : Option (List ℕ)) (result : Result (Unit {0}) ScriptFault) {E : Type 0} (came : Result OutputLine E)
      → IfOk came (Does old new command) → OnErr came (LacksForCommand old new command) → PrintsCame came waiting waiting' number before after result
      → PrintsOf (AnswersLine Does old new (line.Command command)) waiting waiting' number before after result
  command_printed old new command waiting waiting' number before after result (Ok printed) executes lacks prints = inl (Some printed, (printed, executes, refl), prints)
  command_printed old new command waiting waiting' number before after result (Err refused) executes lacks prints = inr (OutOfMemory, inr (lacks, refl), prints)

-- a script over a book that was made
pub started : (Does : Doing) (ranks cache limit : ℕ) (known before after : Option (List ℕ)) (result : Result (Unit {0}) ScriptFault) (book : KeptState) → IsFormatted ranks cache limit book
    → RunsOrNot Does (begun book) known before after result → RunsNew Does ranks cache limit known before after result
started Does ranks cache limit known before after result book formatted (inl runs) = inl (record { book = book; formatted = formatted; runs = runs })
started Does ranks cache limit known before after result book formatted (inr never) = inr never
