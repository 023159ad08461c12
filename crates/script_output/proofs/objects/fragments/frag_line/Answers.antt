use Rattle.script_output.proofs.ObjectCommon.{List, SpellsHeader, ap, counted_header, false, refl, subst, sym, true, ℕ, ◌∙◌, ◌≡◌}
use Rattle.script_output.proofs.ObjectLaws.{no_header, shows_fragment, shows_none}
use Rattle.script_output.proofs.objects.fragments.frag_line.Goals as goal

pub returns-in_default-clause-line : goal.returns-in_default-clause-line
returns-in_default-clause-line c = no_header c.args.object.now _ (c.as_slice.ensures ∙ c.header.ensures) c.in_default.ensures.spelled

pub returns-then-not-has_counts-clause-line : goal.returns-then-not-has_counts-clause-line
returns-then-not-has_counts-clause-line c =
    shows_none c.args.object.now c.in-Some.header (subst (λ (b : List ℕ). SpellsHeader b c.in-Some.header) (c.as_slice.ensures ∙ c.header.ensures) c.in-Some.ensures.spelled) _ (c.deref.ensures.value ∙ c.in_ok-pairs.ensures)
    (λ so. let clash : false ≡ true = c.if-not-has_counts.ensures.1 (c.in_ok-counted.ensures ∙ so) in cc)

pub returns-clause-line : goal.returns-clause-line
returns-clause-line c =
    shows_fragment c.args.object.now c.in-Some.header (subst (λ (b : List ℕ). SpellsHeader b c.in-Some.header) (c.as_slice.ensures ∙ c.header.ensures) c.in-Some.ensures.spelled) c.in_ok-pairs.pairs.items c.in_ok-pairs.ensures
    c.in_ok-keys_of.field-0 (ap (counted_header c.in-Some.header.version) (sym c.deref.ensures.value) ∙ sym c.in_ok-counted.ensures ∙ c.if-not-has_counts.ensures.0 refl) c.in_ok-keys_of.ensures
