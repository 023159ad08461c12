use Rattle.cached_frag.proofs.Common.{AreEntries, Cached, contents, key_cmp, rules, shown_names, subst, sym}
use Rattle.cached_frag.proofs.ShownLaws.{shown_entries}
use Rattle.cached_frag.proofs.named.fragments.NamedFrag.into_names.Goals as goal

pub returns-clause-names : goal.returns-clause-names
returns-clause-names c = search rules

pub returns-clause-entries : goal.returns-clause-entries
returns-clause-entries c =
    subst AreEntries (sym (returns-clause-names c))
    (subst (λ (f : Cached). AreEntries (shown_names f)) c.self.view_is (shown_entries c.self.inside.base (contents key_cmp c.self.inside.clean) (contents key_cmp c.self.inside.dirty) c.self.invariant.based c.self.invariant.entries c.self.invariant.dirty))
