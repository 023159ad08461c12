use Rattle.std.proofs.Common.{◌≡◌, ◌∙◌, arith, subst, sym}
use Rattle.std.proofs.lemmas.Result.{IfOk-weaker}
use Rattle.sqlite_trees.specs.View.{IsClean}
use Rattle.object_tables.specs.Sessions.{HasSessionRows}
use Rattle.object_tables.proofs.SessionLaws.{one_session_map}
use Rattle.kept_store.specs.Kept.{KeptObjects, StoresRows}
use Rattle.kept_store.proofs.KeptLaws.{open_of, read_on}
use Rattle.kept_store.proofs.kept.Kept.session_rows.Goals as goal

pub read_session_rows-requires : goal.read_session_rows-requires
read_session_rows-requires g c clean =
    let tables = c.self.inside.tables in
    let old = g.T.Store.view tables in
    ((c.self.invariant clean).ready (open_of old.is_open old.is_broken (g.met.T.Store.broken_if_shut tables) (sym (c.is_broken.ensures clean) ∙ c.if-is_broken.false))).tables

pub invariant_of-self : goal.invariant_of-self
invariant_of-self g c clean =
    let tables = c.self.inside.tables in
    let old = g.T.Store.view tables in
    let new = g.T.Store.view c.read_session_rows.new.trees in
    let early : IsClean old = omega (arith, c.read_session_rows.ensures.quiet.clean) in
    let m = c.self.invariant early in
    let is_open = open_of old.is_open old.is_broken (g.met.T.Store.broken_if_shut tables) (sym (c.is_broken.ensures early) ∙ c.if-is_broken.false) in
    let ready = m.ready is_open in
    read_on old new (g.T.Store.recovers tables) (g.T.Store.recovers c.read_session_rows.new.trees) c.self.inside.objects c.self.inside.changes m is_open
    (c.read_session_rows.ensures.shape clean (sym ready.shapes)) (c.read_session_rows.ensures.fresh clean ready.fresh) c.read_session_rows.ensures.quiet.outcomes

pub returns-clause-rows : goal.returns-clause-rows
returns-clause-rows g c = IfOk-weaker c.read_session_rows.result _ _
    (λ rows has clean db may.
    let tables = c.self.inside.tables in
    let old = g.T.Store.view tables in
    let early : IsClean old = omega (arith, c.read_session_rows.ensures.quiet.clean) in
    let is_open = open_of old.is_open old.is_broken (g.met.T.Store.broken_if_shut tables) (sym (c.is_broken.ensures early) ∙ c.if-is_broken.false) in
    let same = ((c.self.invariant early).ready is_open).fresh ∙ sym (g.met.T.Store.settled tables db is_open (c.read_session_rows.ensures.quiet.outcomes db may)) in
    subst (λ t. HasSessionRows t rows) same (has clean))
    c.read_session_rows.ensures.ok

pub returns-clause-alone : goal.returns-clause-alone
returns-clause-alone g c = IfOk-weaker c.read_session_rows.result _ _
    (λ rows has clean others.
    let tables = c.self.inside.tables in
    let old = g.T.Store.view tables in
    let early : IsClean old = omega (arith, c.read_session_rows.ensures.quiet.clean) in
    let is_open = open_of old.is_open old.is_broken (g.met.T.Store.broken_if_shut tables) (sym (c.is_broken.ensures early) ∙ c.if-is_broken.false) in
    let same = ((c.self.invariant early).ready is_open).fresh in
    subst (λ (k : KeptObjects _). StoresRows (g.T.Store.recovers k.tables) others → rows ≡ others) c.self.view_is
    (λ stored. one_session_map old.committed rows others (subst (λ t. HasSessionRows t rows) same (has clean)) (stored old.committed (g.met.T.Store.stays tables is_open))))
    c.read_session_rows.ensures.ok
