-- What waits is written where there was no memory for one more line.
use Rattle.admin_cli.proofs.Common.{Appends, Err, List, Ok, Option, OutputLine, Result, ScriptFault, Waiting, WriteFault, inl, inr, length, line_at, subst, take, line_text, ℕ, ◌++◌, ◌<◌, ◌≡◌}
use Rattle.admin_cli.specs.Waiting.{PrintsApart, PrintsOutput}

-- by the same text and marks
pub apart_behind : (old mid new : Waiting) (line : ℕ) (printed : OutputLine) (before after : Option (List ℕ)) (result : Result (Unit {0}) ScriptFault)
    → (mid.bytes.items ≡ old.bytes.items) × (mid.marks.items ≡ old.marks.items) → PrintsApart mid new line printed before after result → PrintsOutput old new line printed before after result
apart_behind old mid new line printed before after (Ok done) (bytes, marks) (empty, written) =
    inr (empty, subst (λ b. Appends before after (b ++ line_text printed)) bytes written)
apart_behind old mid new line printed before after (Err fault) (bytes, marks) (empty, inl breaks) = (
  empty,
  inl (record {
    place = breaks.place;
    short = subst (λ b. breaks.place < length b) bytes breaks.short;
    written = subst (λ b. Appends before after (take breaks.place b)) bytes breaks.written;
    told = subst (λ m. fault ≡ record { line = line_at m breaks.place; kind = WriteFault }) marks breaks.told;
  }),
)
apart_behind old mid new line printed before after (Err fault) (bytes, marks) (empty, inr own) = (
  empty,
  inr (record {
    kind = own.kind;
    told = own.told;
    middle = own.middle;
    flushed = subst (λ b. Appends before own.middle b) bytes own.flushed;
    prints = own.prints;
  }),
)
