use Rattle.cached_frag.proofs.Common.{AreEntries, Cached, ap, contents, key_cmp, shown_names, subst}
use Rattle.cached_frag.proofs.CopiedLaws.{copied, copied_entries}
use Rattle.cached_frag.proofs.ShownLaws.{shown_entries}
use Rattle.cached_frag.proofs.named.fragments.NamedFrag.copy_names.Goals as goal

pub returns-clause-names : goal.returns-clause-names
returns-clause-names c =
    copied c.copy_shown.result c.self.inside.base (contents key_cmp c.self.inside.clean) (contents key_cmp c.self.inside.dirty) c.args.self.now c.self.invariant.based (ap (λ (f : Cached). shown_names f) c.self.view_is) c.copy_shown.ensures

pub returns-clause-entries : goal.returns-clause-entries
returns-clause-entries c =
    copied_entries c.copy_shown.result c.args.self.now
    (subst (λ (f : Cached). AreEntries (shown_names f)) c.self.view_is (shown_entries c.self.inside.base (contents key_cmp c.self.inside.clean) (contents key_cmp c.self.inside.dirty) c.self.invariant.based c.self.invariant.entries c.self.invariant.dirty))
    (returns-clause-names c)
