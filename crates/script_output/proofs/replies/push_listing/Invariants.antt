use Rattle.script_output.proofs.Common.{flat_map, listed_text, take, ◌++◌, ◌≡◌}
use Rattle.script_output.proofs.replies.push_listing.Given as goal

-- the entries passed are in the text
abbrev pub invariant-loop-entry : goal.invariant-loop-entry
invariant-loop-entry l = l.out.items ≡ l.initial.out.items ++ flat_map listed_text (take l.entry-index l.entry-items)
