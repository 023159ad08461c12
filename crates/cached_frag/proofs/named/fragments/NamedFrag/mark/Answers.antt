-- The names that are shown change at the one name, and the counts with it.
use Rattle.cached_frag.proofs.Common.{Cached, ap, contents, counted, key_cmp, subst, sym, ◌<◌, ◌∙◌}
use Rattle.cached_frag.proofs.KeptLaws.{dir_there, file_there, kept_marked, was_counted}
use Rattle.cached_frag.proofs.ShownLaws.{shown_put}
use Rattle.cached_frag.proofs.named.fragments.NamedFrag.mark.Goals as goal

pub recounted-self-inside-requires-clause-files : goal.recounted-self-inside-requires-clause-files
recounted-self-inside-requires-clause-files c = file_there _ _ _ c.args.name _ c.self.invariant (was_counted _ _ _ c.args.name _ _ c.self.invariant (c.counted-below.ensures.counted ∙ ap counted c.get.ensures) c.put_mark-before.ensures.before)

pub recounted-self-inside-requires-clause-dirs : goal.recounted-self-inside-requires-clause-dirs
recounted-self-inside-requires-clause-dirs c = dir_there _ _ _ c.args.name _ c.self.invariant (was_counted _ _ _ c.args.name _ _ c.self.invariant (c.counted-below.ensures.counted ∙ ap counted c.get.ensures) c.put_mark-before.ensures.before)

pub invariant_of-self : goal.invariant_of-self
invariant_of-self c =
    kept_marked _ _ _ _ _ c.args.name c.args.mark _ _ c.self.invariant c.dirty_names_are_recorded.ensures (subst (λ (f : Cached). 0 < f.room) (sym c.self.view_is) c.requires.room)
    (was_counted _ _ _ c.args.name _ _ c.self.invariant (c.counted-below.ensures.counted ∙ ap counted c.get.ensures) c.put_mark-before.ensures.before) (c.counted-after.ensures.counted ∙ ap counted c.as_ref.ensures.value) c.counted-after.ensures.one c.recounted-self-inside.ensures.files c.recounted-self-inside.ensures.dirs
    c.put_mark-before.ensures.room _ c.put_mark-before.ensures.put

pub returns-clause-shown : goal.returns-clause-shown
returns-clause-shown c = rw (← c.self.view_is) (shown_put c.self.inside.base (contents key_cmp c.self.inside.clean) (contents key_cmp c.self.inside.dirty) _ c.args.name c.args.mark c.put_mark-before.ensures.put)
