use Rattle.cached_frag.proofs.SettledLaws.{taken_entries, taken_marks, taken_shown}
use Rattle.cached_frag.proofs.named.settling.settle_one.Goals as goal

pub returns-in_default-clause-marks : goal.returns-in_default-clause-marks
returns-in_default-clause-marks c = taken_marks _ _ _ _ _ c.take_settled.ensures c.requires.marks

pub returns-clause-shown : goal.returns-clause-shown
returns-clause-shown c = taken_shown _ _ _ _ _ _ _ c.in-Some.ensures c.put_clean.ensures.put

pub returns-clause-entries : goal.returns-clause-entries
returns-clause-entries c = taken_entries _ _ _ _ _ _ _ c.in-Some.ensures c.put_clean.ensures.put c.requires.entries c.requires.marks

pub returns-clause-marks : goal.returns-clause-marks
returns-clause-marks c = taken_marks _ _ _ _ _ c.take_settled.ensures c.requires.marks
