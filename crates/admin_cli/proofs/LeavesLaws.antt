-- What a script leaves, wherever it ends.
use Rattle.admin_cli.proofs.Common.{Admin, AnswersLine, Appends, Appends-trans, DoesBytes, Err, FaultKind, IfSome, IsFirstLine, LacksMemory, LeavesAdmin, LeavesWaiting, Line, List, Mark, None, OfFirst, Ok, Option, OutputLine, PrintsOf, Result, RunsLine, RunsLines, ScriptFault, Some, StopsAt, Waiting, [], inl, inr, length, lines_of, refl, subst, sym, line_text, ℕ, ◌++◌, ◌∙◌, ◌∷◌, ◌≡◌, ◌≤◌}
use Rattle.std.specs.Prelude.{◌⊎◌}
use Rattle.admin_cli.proofs.Progress.{IsLeft, IsReached, TakesLines, all_lines, first_left, runs-append, some_left, takes-next}
use Rattle.admin_cli.specs.Scripts.{DoesLine, Doing, LacksLine}
use Rattle.script_text.specs.Script.{line_of}

module _ (Does : Doing) where
  -- what was left at the line from which the script didn't go on
  abbrev Last : (now new : Admin) → List (List ℕ) → Type 0
  Last now new lines = (new ≡ now) ⊎ OfFirst (λ bytes. LacksMemory Does now new bytes) lines

  left_by : (old now new : Admin) (known left : Option (List ℕ)) (done lines : List (List ℕ)) (text : List ℕ) → TakesLines Does known left done → IsLeft Does left lines → RunsLines Does old now done text → Last now new lines
      → (before after : Option (List ℕ)) (fault : ScriptFault) → LeavesAdmin Does old new known before after (Err fault)
  left_by old now new known left done lines text taken rest runs last before after fault = record {
    lines = done ++ lines;
    read = all_lines Does known left done lines taken rest;
    done = done;
    left = lines;
    whole = refl;
    reached = now;
    text = text;
    runs = runs;
    last = last;
    all = tt;
  }

  waits_so : (old new : Admin) (known before mid : Option (List ℕ)) (waiting : Waiting) (fault : ScriptFault) → ((after : Option (List ℕ)) (other : ScriptFault) → LeavesAdmin Does old new known before after (Err other))
      → LeavesWaiting Does old new waiting known before mid (Err fault)
  waits_so old new known before mid waiting fault leaves = record { whole = λ after wrote. leaves after fault; broken = leaves }

  module _ (old now : Admin) (known left before mid : Option (List ℕ)) (bytes : List ℕ) (marks : List Mark) (number : ℕ) (r : IsReached Does old now known left before mid bytes marks number) where
    -- before another line was done
    pub leaves_here : (waiting : Waiting) (last : Option (List ℕ)) (fault : ScriptFault) → LeavesWaiting Does old now waiting known before last (Err fault)
    leaves_here waiting last fault =
        let (lines, rest) = some_left Does left in
        waits_so old now known before last waiting fault (λ after other. left_by old now now known left r.done lines (r.text ++ bytes) r.taken rest r.runs (inl refl) before after other)

    -- where no line is left
    pub leaves_all : (waiting : Waiting) → waiting.bytes.items ≡ bytes → IfSome left (λ more. lines_of more ≡ []) → LeavesWaiting Does old now waiting known before mid (Ok tt)
    leaves_all waiting is none = record {
      whole = λ after wrote. record {
        lines = r.done ++ [];
        read = all_lines Does known left r.done [] r.taken none;
        done = r.done;
        left = [];
        whole = refl;
        reached = now;
        text = r.text ++ bytes;
        runs = r.runs;
        last = inl refl;
        all = (refl, Appends-trans before mid after r.text bytes r.written (subst (Appends mid after) is wrote));
      };
      broken = λ after other. left_by old now now known left r.done [] (r.text ++ bytes) r.taken none r.runs (inl refl) before after other;
    }

    module _ (new : Admin) (rest : Option (List ℕ)) (line : List ℕ) (next : IfSome left (λ known. IsFirstLine known line rest)) where
      -- the next line was done
      done_so : (more : List ℕ) → RunsLine Does now new line more → (after : Option (List ℕ)) (other : ScriptFault) → LeavesAdmin Does old new known before after (Err other)
      done_so more run after other =
          let (lines, others) = some_left Does rest in
          left_by old new new known rest (r.done ++ line ∷ []) lines ((r.text ++ bytes) ++ more) (takes-next Does known left rest r.done line r.taken next) others
          (runs-append Does old now new r.done line (r.text ++ bytes) more r.runs run) (inl refl) before after other

      any_line : (printed : Option OutputLine) → DoesBytes Does now new line (Ok printed) → (after : Option (List ℕ)) (other : ScriptFault) → LeavesAdmin Does old new known before after (Err other)
      any_line None run = done_so [] run
      any_line (Some printed) run = done_so (line_text printed) run

      first_of : (others : List (List ℕ)) → (new ≡ now) ⊎ LacksMemory Does now new line → Last now new (line ∷ others)
      first_of others (inl same) = inl same
      first_of others (inr lacks) = inr lacks

      stopped_so : (kind : FaultKind) → DoesBytes Does now new line (Err kind) → (after : Option (List ℕ)) (other : ScriptFault) → LeavesAdmin Does old new known before after (Err other)
      stopped_so kind (stops, leaves) after other =
          let (others, all) = first_left Does left rest line next in
          left_by old now new known left r.done (line ∷ others) (r.text ++ bytes) r.taken all r.runs (first_of others leaves) before after other

      -- the script ended at the next line
      pub leaves_at : (waiting waiting' waiting'' : Waiting) (at : ℕ) (from to last : Option (List ℕ)) (fault : ScriptFault) (result : Result (Unit {0}) ScriptFault) → PrintsOf (DoesBytes Does now new line) waiting waiting' at from to result
          → LeavesWaiting Does old new waiting'' known before last (Err fault)
      leaves_at waiting waiting' waiting'' at from to last fault result (inl (printed, run, prints)) = waits_so old new known before last waiting'' fault (any_line printed run)
      leaves_at waiting waiting' waiting'' at from to last fault result (inr (kind, stops, unprinted)) = waits_so old new known before last waiting'' fault (stopped_so kind stops)

  taken_none : (known : Option (List ℕ)) → TakesLines Does known known []
  taken_none None = tt
  taken_none (Some bytes) = refl

  -- no line was read
  pub leaves_none : (old : Admin) (known before after : Option (List ℕ)) (fault : ScriptFault) → LeavesAdmin Does old old known before after (Err fault)
  leaves_none old known before after fault =
      let (lines, rest) = some_left Does known in
      left_by old old old known known [] lines [] (taken_none known) rest (refl, refl) (inl refl) before after fault

  -- what a line came to, by what it was read as
  by_bytes : (old new : Admin) (bytes : List ℕ) (found : Line) → line_of bytes ≡ found → length bytes ≤ 16384 → (came : Result (Option OutputLine) FaultKind) → AnswersLine Does old new found came → DoesBytes Does old new bytes came
  by_bytes old new bytes found is short (Ok None) does = record { short = short; does = subst (λ (l : Line). DoesLine Does old new l []) (sym is) does }
  by_bytes old new bytes found is short (Ok (Some printed)) does = record { short = short; does = subst (λ (l : Line). DoesLine Does old new l (line_text printed)) (sym is) does }
  by_bytes old new bytes found is short (Err kind) (inl (none, told, same)) =
      subst (λ (k : FaultKind). StopsAt Does old new bytes k [] × ((new ≡ old) ⊎ LacksMemory Does old new bytes)) (sym told) ((short, is ∙ none, refl), inl same)
  by_bytes old new bytes found is short (Err kind) (inr (lacks, told)) =
      let line_lacks : LacksLine old new (line_of bytes) = subst (λ (l : Line). LacksLine old new l) (sym is) lacks in
      subst (λ (k : FaultKind). StopsAt Does old new bytes k [] × ((new ≡ old) ⊎ LacksMemory Does old new bytes)) (sym told) ((short, inr (inl line_lacks), refl), inr (inr (inl line_lacks)))

  pub prints_bytes : (old new : Admin) (bytes : List ℕ) (found : Line) → line_of bytes ≡ found → length bytes ≤ 16384 → (waiting waiting' : Waiting) (number : ℕ) (before after : Option (List ℕ)) (result : Result (Unit {0}) ScriptFault)
      → PrintsOf (AnswersLine Does old new found) waiting waiting' number before after result → PrintsOf (DoesBytes Does old new bytes) waiting waiting' number before after result
  prints_bytes old new bytes found is short waiting waiting' number before after result (inl (printed, does, prints)) = inl (printed, by_bytes old new bytes found is short (Ok printed) does, prints)
  prints_bytes old new bytes found is short waiting waiting' number before after result (inr (kind, stops, unprinted)) = inr (kind, by_bytes old new bytes found is short (Err kind) stops, unprinted)
